use Rattle.std.proofs.Common.{◌≡◌, ℕ, ◌+◌, ◌-◌, ◌<◌}
use Rattle.std.specs.Prelude.{slice_index, min}
use Rattle.reference_frames.specs.Unfiltered.{above}
use Rattle.reference_frames.proofs.prediction.read_above_or_last.Given as goal

abbrev pub invariant-loop-k : goal.invariant-loop-k
invariant-loop-k l = (k : ℕ) → k < l.k → slice_index l.out k ≡ above l.plane.shown (min (l.x + k) (l.plane.shown.width - 1)) l.y
