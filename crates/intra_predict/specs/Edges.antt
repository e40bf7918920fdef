-- The samples outside the frame, by which blocks at its edges are predicted (RFC 6386, section 12.2).
use Rattle.std.specs.Prelude.{ℕ}

-- each sample above the frame, the corner above its left edge included
abbrev pub above_frame : ℕ
above_frame = 127

-- each sample to the left of the frame, from its first row on
abbrev pub left_of_frame : ℕ
left_of_frame = 129
