use Rattle.std.proofs.Common.{◌≡◌, ℕ, ◌+◌, ◌*◌, ◌<◌, pos, ◌+ℤ◌}
use Rattle.std.specs.Prelude.{slice_index}
use Rattle.pixel_planes.specs.ReferenceSamples.{reference_sample}
use Rattle.inter_predict.proofs.gathering.gather.Given as goal

abbrev pub invariant-loop-row : goal.invariant-loop-row
invariant-loop-row l = (column row : ℕ) → column < l.fn.width → row < l.row → slice_index l.out (row * 21 + column) ≡ reference_sample l.fn.plane.shown (l.fn.x +ℤ pos column) (l.fn.y +ℤ pos row)
