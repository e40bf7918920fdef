use Rattle.std.proofs.Common.{◌≡◌, ℕ, ◌+◌, ◌*◌, ◌<◌, length, slice_range}
use Rattle.pixel_planes.proofs.borders.repeat_row.Given as goal

-- the first rows are that row
abbrev pub invariant-loop-y : goal.invariant-loop-y
invariant-loop-y l = record { len : length l.out ≡ length l.initial.out; rows : (k : ℕ) → k < l.y → slice_range l.out (k * length l.row) (k * length l.row + length l.row) ≡ l.row }
