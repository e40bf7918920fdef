use Rattle.std.specs.Prelude.{slice_index, sum}
use Rattle.std.specs.List.{range_with_len}
use Rattle.std.proofs.Common.{◌≡◌, ◌+◌, ◌-◌, ◌*◌, ◌≤◌, map}
use Rattle.intra_predict.specs.InPlace.{start_of}
use Rattle.intra_predict.proofs.in_place.sum_left.Given as goal

abbrev pub invariant-loop-row : goal.invariant-loop-row
invariant-loop-row g l = (l.sum ≡ sum (map (λ row. slice_index l.fn.samples (start_of l.fn.corner + row * l.fn.corner.across - 1)) (range_with_len 0 l.row))) × (l.sum ≤ 255 * l.row)
