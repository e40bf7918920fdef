use Rattle.std.proofs.Common.{◌≡◌, ℕ, ◌+◌, ◌*◌, ◌<◌, pos}
use Rattle.std.specs.Prelude.{slice_index}
use Rattle.inter_predict.specs.InterSample.{predicted}
use Rattle.inter_predict.proofs.pieces.row_in_pieces.Given as goal

abbrev pub invariant-loop-number : goal.invariant-loop-number
invariant-loop-number l = record {
  before : (place : ℕ) → place < l.fn.start → slice_index l.out place ≡ slice_index l.fn.out place;
  each : (column : ℕ) → column < 16 * l.number → column < l.fn.width → slice_index l.out (l.fn.start + column) ≡ predicted l.fn.source.kind l.fn.source.plane.now.shown l.fn.source.x l.fn.source.y (pos l.fn.source.right) (pos l.fn.source.below) column 0;
}
