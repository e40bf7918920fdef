use Rattle.std.proofs.Common.{◌≡◌, ℕ, ◌+◌, ◌<◌}
use Rattle.std.specs.Prelude.{slice_index}
use Rattle.inter_predict.proofs.pieces.piece.Given as goal

abbrev pub invariant-loop-column : goal.invariant-loop-column
invariant-loop-column l = record {
  before : (place : ℕ) → place < l.fn.start → slice_index l.out place ≡ slice_index l.fn.out place;
  each : (column : ℕ) → column < l.column → slice_index l.out (l.fn.start + column) ≡ slice_index l.samples column;
}
