use Rattle.inter_predict.specs.InterSample.{predicted}
use Rattle.inter_predict.proofs.FarPieces.{same_block}
use Rattle.inter_predict.proofs.blocks.large.Goals as goal

pub returns : goal.returns
returns c = same_block _ (predicted c.args.source.kind c.args.source.plane.now.shown c.args.source.x c.args.source.y c.args.source.vector.0 c.args.source.vector.1) c.args.width c.args.height c.args.width c.args.out.now c.in_rows.new.out c.in_rows.ensures c.near.ensures.samples
