use Rattle.std.proofs.Common.{rules, refl, add-one}
use Rattle.reference_frames.specs.Unfiltered.{predicted_sub_blocks}
use Rattle.reference_frames.proofs.prediction.predict_sub_blocks.Goals as goal

pub loop-block-init : goal.loop-block-init
unfolding predicted_sub_blocks
loop-block-init c = (refl, search rules)

pub loop-block-preserved : goal.loop-block-preserved
unfolding predicted_sub_blocks
loop-block-preserved c = (rw (add-one, ← c.loop-block.invariant.0) c.predict_sub_block.ensures.value, search rules)
