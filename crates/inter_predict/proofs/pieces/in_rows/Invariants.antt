use Rattle.std.proofs.Common.{◌≡◌, ℕ, ◌+◌, ◌*◌, ◌<◌, pos}
use Rattle.std.specs.Prelude.{slice_index}
use Rattle.inter_predict.specs.InterSample.{predicted}
use Rattle.inter_predict.proofs.pieces.in_rows.Given as goal

abbrev pub invariant-loop-row : goal.invariant-loop-row
invariant-loop-row l = (column row : ℕ) → column < l.fn.width → row < l.row → slice_index l.out (row * l.fn.width + column) ≡ predicted l.fn.source.kind l.fn.source.plane.now.shown l.fn.source.x l.fn.source.y (pos l.fn.source.right) (pos l.fn.source.below) column row
