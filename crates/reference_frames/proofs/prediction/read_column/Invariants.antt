use Rattle.std.proofs.Common.{◌≡◌, ℕ, ◌+◌, ◌<◌}
use Rattle.std.specs.Prelude.{slice_index}
use Rattle.pixel_planes.specs.Samples.{sample_at}
use Rattle.reference_frames.proofs.prediction.read_column.Given as goal

abbrev pub invariant-loop-k : goal.invariant-loop-k
invariant-loop-k l = (k : ℕ) → k < l.k → slice_index l.out k ≡ sample_at l.plane.shown l.x (l.y + k)
