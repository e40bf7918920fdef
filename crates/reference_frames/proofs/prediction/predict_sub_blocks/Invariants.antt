use Rattle.std.proofs.Common.{◌≡◌}
use Rattle.std.specs.Option.{option_copied}
use Rattle.reference_frames.specs.Unfiltered.{predicted_sub_blocks, SameSides}
use Rattle.reference_frames.proofs.prediction.predict_sub_blocks.Given as goal

abbrev pub invariant-loop-block : goal.invariant-loop-block
invariant-loop-block l = (l.plane.shown ≡ predicted_sub_blocks l.initial.plane.shown l.mx l.my l.modes (option_copied l.residual) l.block) × SameSides l.initial.plane.shown l.plane.shown
