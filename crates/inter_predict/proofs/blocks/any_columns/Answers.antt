use Rattle.inter_predict.specs.InterSample.{predicted}
use Rattle.inter_predict.proofs.FarPieces.{further_within, same_block}
use Rattle.inter_predict.proofs.blocks.any_columns.Goals as goal

pub block_at-requires-clause-near : goal.block_at-requires-clause-near
block_at-requires-clause-near c = (further_within _ c.near.ensures.near.0, further_within _ c.near.ensures.near.1)

pub returns : goal.returns
returns c = same_block _ (predicted c.args.source.kind c.args.source.plane.now.shown c.args.source.x c.args.source.y c.args.source.vector.0 c.args.source.vector.1) c.args.width c.args.height c.args.stride c.args.out.now c.block_at.new.out c.block_at.ensures c.near.ensures.samples
