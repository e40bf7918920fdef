use Rattle.inter_predict.proofs.FarPieces.{block_is_at, two_before}
use Rattle.inter_predict.proofs.pieces.block_at.Goals as goal

pub returns-in-Some : goal.returns-in-Some
returns-in-Some c =
    block_is_at c.args.source.kind c.args.source.plane.now.shown c.args.source.x c.args.source.y _ _ c.args.source.right c.args.source.below c.of-across.result c.of-down.result c.in-Some.window.samples.now c.in-Some.window.stride c.args.width c.args.height c.args.stride c.args.out.now c.predict.new.out
    c.requires.eighths.0 c.requires.eighths.1 c.of-across.ensures.value c.of-down.ensures.value (two_before c.args.source.x c.requires.near.0) (two_before c.args.source.y c.requires.near.1) c.in-Some.ensures.samples c.predict.ensures.samples

pub returns-in_default : goal.returns-in_default
returns-in_default c =
    block_is_at c.args.source.kind c.args.source.plane.now.shown c.args.source.x c.args.source.y _ _ c.args.source.right c.args.source.below c.of-across.result c.of-down.result c.gather.new.out 21 c.args.width c.args.height c.args.stride c.args.out.now c.predict-in_default.new.out
    c.requires.eighths.0 c.requires.eighths.1 c.of-across.ensures.value c.of-down.ensures.value (two_before c.args.source.x c.requires.near.0) (two_before c.args.source.y c.requires.near.1) c.gather.ensures c.predict-in_default.ensures.samples
