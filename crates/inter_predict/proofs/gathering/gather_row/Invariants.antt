use Rattle.std.proofs.Common.{◌≡◌, ℕ, ◌+◌, ◌<◌, pos, ◌+ℤ◌}
use Rattle.std.specs.Prelude.{slice_index}
use Rattle.pixel_planes.specs.ReferenceSamples.{reference_sample}
use Rattle.inter_predict.proofs.gathering.gather_row.Given as goal

abbrev pub invariant-loop-column : goal.invariant-loop-column
invariant-loop-column l = record {
  before : (place : ℕ) → place < l.fn.start → slice_index l.out place ≡ slice_index l.fn.out place;
  each : (column : ℕ) → column < l.column → slice_index l.out (l.fn.start + column) ≡ reference_sample l.fn.plane.shown (l.fn.x +ℤ pos column) l.fn.y;
}
