-- Which samples the sub block modes read above a sub block and to its right (RFC 6386, section 12.3), as laws.
use Rattle.std.specs.Prelude.{◌≡◌, ℕ, ◌+◌, ◌-◌, ◌*◌, ◌%◌, ◌<◌, ◌≤◌, slice_index}
use Rattle.pixel_planes.specs.Samples.{Samples}
use Rattle.reference_frames.specs.Unfiltered.{above, above_eight, sub_column, sub_row}

-- the first four are the samples above the sub block
abbrev pub ReadsRowAbove : Type 0
ReadsRowAbove =
    (p : Samples) (mx my n k : ℕ) → 16 * mx + 16 ≤ p.width → k < 4 →
    slice_index (above_eight p mx my n) k ≡ above p (sub_column mx n + k) (sub_row my n)

-- the other four are the samples above the next sub block, except in a macroblock's last column of sub blocks
abbrev pub ReadsNextBlock : Type 0
ReadsNextBlock =
    (p : Samples) (mx my n k : ℕ) → 16 * mx + 16 ≤ p.width → n % 4 < 3 → k < 4 →
    slice_index (above_eight p mx my n) (4 + k) ≡ slice_index (above_eight p mx my (n + 1)) k

-- in that column, later rows of sub blocks read the same four as the first row: none is of the current macroblock row
abbrev pub RepeatsFirstRow : Type 0
RepeatsFirstRow =
    (p : Samples) (mx my n k : ℕ) → n % 4 ≡ 3 → k < 4 →
    slice_index (above_eight p mx my n) (4 + k) ≡ slice_index (above_eight p mx my 3) (4 + k)

-- these are the samples above the next macroblock
abbrev pub ReadsNextMacroblock : Type 0
ReadsNextMacroblock =
    (p : Samples) (mx my k : ℕ) → 16 * (mx + 2) ≤ p.width → k < 4 →
    slice_index (above_eight p mx my 3) (4 + k) ≡ slice_index (above_eight p (mx + 1) my 0) k

-- in the frame's last macroblock of a row, the last sample above it, four times
abbrev pub RepeatsLastColumn : Type 0
RepeatsLastColumn =
    (p : Samples) (mx my k : ℕ) → p.width ≡ 16 * (mx + 1) → k < 4 →
    slice_index (above_eight p mx my 3) (4 + k) ≡ above p (p.width - 1) (16 * my)
