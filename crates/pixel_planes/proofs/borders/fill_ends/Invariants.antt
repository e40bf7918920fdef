use Rattle.std.proofs.Common.{◌≡◌, ℕ, ◌+◌, ◌*◌, ◌<◌, length, drop, slice_range}
use Rattle.pixel_planes.specs.Layout.{bordered_side, bordered_row}
use Rattle.pixel_planes.proofs.borders.fill_ends.Given as goal

-- the ends of the rows so far are filled, and the samples after them are unchanged
abbrev pub invariant-loop-y : goal.invariant-loop-y
invariant-loop-y l = record { len : length l.samples ≡ length l.initial.samples; rows : (k : ℕ) → k < l.y → slice_range l.samples ((l.border + k) * bordered_side l.width l.border) ((l.border + k) * bordered_side l.width l.border + bordered_side l.width l.border) ≡ bordered_row l.border (slice_range l.initial.samples ((l.border + k) * bordered_side l.width l.border + l.border) ((l.border + k) * bordered_side l.width l.border + l.border + l.width)); rest : drop ((l.border + l.y) * bordered_side l.width l.border) l.samples ≡ drop ((l.border + l.y) * bordered_side l.width l.border) l.initial.samples }
