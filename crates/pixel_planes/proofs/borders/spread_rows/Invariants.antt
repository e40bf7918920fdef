use Rattle.std.proofs.Common.{◌≡◌, ℕ, ◌+◌, ◌*◌, ◌<◌, ◌≤◌, length, take, slice_range}
use Rattle.pixel_planes.specs.Layout.{bordered_side, bordered_row}
use Rattle.pixel_planes.proofs.borders.spread_rows.Given as goal

-- the rows from the last to this one are written with their border, and the front of the block is unchanged
abbrev pub invariant-loop-y : goal.invariant-loop-y
invariant-loop-y l = record { len : length l.samples ≡ length l.initial.samples; front : take (l.y * l.width) l.samples ≡ take (l.y * l.width) l.initial.samples; rows : (y : ℕ) → l.y ≤ y → y < l.height → slice_range l.samples ((l.border + y) * bordered_side l.width l.border) ((l.border + y) * bordered_side l.width l.border + bordered_side l.width l.border) ≡ bordered_row l.border (slice_range l.initial.samples (y * l.width) (y * l.width + l.width)) }
