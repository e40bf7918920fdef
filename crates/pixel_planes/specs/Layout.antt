-- The layout of the samples of a plane and of its border in one block of memory.
use Rattle.std.specs.Prelude.{◌≡◌, ℕ, false, zero, suc, ◌+◌, ◌-◌, ◌*◌, ◌<◌, ◌≤◌, min, List, [], ◌++◌, length, replicate, slice_index, slice_range}
use Rattle.std.specs.Simd.Lanes.{put_chunk}
use Rattle.pixel_planes.specs.Samples.{Samples, PlaneValue, IsWhole, row_of}

-- so many rows of `width` samples, the first of them starting at index `first` and each further one `stride` after the one above, concatenated
unfoldable pub rows_of : List ℕ → ℕ → ℕ → ℕ → ℕ → List ℕ
rows_of items first stride width zero = []
rows_of items first stride width (suc n) = rows_of items first stride width n ++ slice_range items (first + n * stride) (first + n * stride + width)

-- column x of row y of such rows is the sample x after the first one of its row in the block
abbrev pub RowsArePlaced : Type 0
RowsArePlaced = (items : List ℕ) (first stride width n x y : ℕ) → width ≤ stride → first + n * stride ≤ length items → y < n → x < width → slice_index (rows_of items first stride width n) (y * width + x) ≡ slice_index items (first + y * stride + x)

-- the side of a plane with its border on both sides
abbrev pub bordered_side : ℕ → ℕ → ℕ
bordered_side side border = side + 2 * border

-- a row with its first sample so many times before it and its last sample so many times after it
abbrev pub bordered_row : ℕ → List ℕ → List ℕ
bordered_row border row = replicate border (slice_index row 0) ++ (row ++ replicate border (slice_index row (length row - 1)))

-- the rows of the plane, each with its border at both ends; above them the first row again and below them the last one, as often as the border is wide
pub record IsBordered (p : Samples) (border : ℕ) (items : List ℕ) : Type 0 where
  pub rows : (row : ℕ) → row < bordered_side p.height border → slice_range items (row * bordered_side p.width border) (row * bordered_side p.width border + bordered_side p.width border) ≡ bordered_row border (row_of p (min (row - border) (p.height - 1)))

-- the sides of a plane and its border, and the position of its shown rows in the block
pub record Layout : Type 0 where
  pub width : ℕ
  pub height : ℕ
  pub border : ℕ
  pub first : ℕ
  pub stride : ℕ

-- those numbers in this order
abbrev pub layout_of : ℕ → ℕ → ℕ → ℕ → ℕ → Layout
layout_of width height border first stride = record { width = width; height = height; border = border; first = first; stride = stride }

-- the shown samples of the block
abbrev pub shown_in : Layout → List ℕ → Samples
shown_in l items = record { width = l.width; height = l.height; samples = rows_of items l.first l.stride l.width l.height }

-- the plane of these sides whose rows start `stride` apart, the first of them at the front of these samples
abbrev pub cropped : ℕ → ℕ → ℕ → List ℕ → Samples
cropped width height stride items = record { width = width; height = height; samples = rows_of items 0 stride width height }

-- the plane of these sides whose rows are one directly after the other at the front of the block
abbrev pub flat_plane : ℕ → ℕ → List ℕ → Samples
flat_plane width height items = cropped width height width items

-- the plane of these sides whose rows are inside its border in the block
abbrev pub apart_in : ℕ → ℕ → ℕ → List ℕ → Samples
apart_in width height border items = shown_in (layout_of width height border (border * bordered_side width border + border) (bordered_side width border)) items

-- the first so many rows of the plane, each with the row from these samples written over it, in which the rows start `stride` apart
unfoldable pub rows_written_over : Samples → ℕ → List ℕ → ℕ → List ℕ
rows_written_over p stride items zero = []
rows_written_over p stride items (suc n) = rows_written_over p stride items n ++ put_chunk 0 (row_of p n) (slice_range items (n * stride) (n * stride + p.width))

-- the plane with all its rows written over, from samples in which they start as far apart as a row with its border is wide; its border is then out of date
abbrev pub with_rows_written : PlaneValue → List ℕ → PlaneValue
with_rows_written plane items = record plane { shown = record plane.shown { samples = rows_written_over plane.shown (bordered_side plane.shown.width plane.border) items plane.shown.height }; is_current = false }

-- written over from as many samples as the rows take, the plane shows the rows of these samples
abbrev pub WrittenRowsAreCropped : Type 0
WrittenRowsAreCropped = (plane : PlaneValue) (items : List ℕ) → IsWhole plane.shown → length items ≡ plane.shown.height * bordered_side plane.shown.width plane.border → with_rows_written plane items ≡ record plane { shown = cropped plane.shown.width plane.shown.height (bordered_side plane.shown.width plane.border) items; is_current = false }

-- the rows from the front of the block are now in it with their border
abbrev pub HasBorderedRows : ℕ → ℕ → ℕ → List ℕ → List ℕ → Type 0
HasBorderedRows width height border before items =
    (y : ℕ) → y < height → slice_range items ((border + y) * bordered_side width border) ((border + y) * bordered_side width border + bordered_side width border) ≡ bordered_row border (slice_range before (y * width) (y * width + width))

-- the rows are in the block as before, now with the border at both ends
abbrev pub HasFilledEnds : ℕ → ℕ → ℕ → List ℕ → List ℕ → Type 0
HasFilledEnds width height border before items =
    (y : ℕ) → y < height → slice_range items ((border + y) * bordered_side width border) ((border + y) * bordered_side width border + bordered_side width border) ≡ bordered_row border (slice_range before ((border + y) * bordered_side width border + border) ((border + y) * bordered_side width border + border + width))

-- the rows of the block are those in its middle as before, and above and below them the first and the last of them
abbrev pub HasEdgesRepeated : ℕ → ℕ → ℕ → List ℕ → List ℕ → Type 0
HasEdgesRepeated stride height border before items =
    (row : ℕ) → row < bordered_side height border → slice_range items (row * stride) (row * stride + stride) ≡ slice_range before ((border + min (row - border) (height - 1)) * stride) ((border + min (row - border) (height - 1)) * stride + stride)

-- the sides are 1 to 16,384 and the border at most 64; the block has room for the plane with its border; the shown rows are inside the border, or one directly after the other at the front of the block
pub record IsLaidOut (l : Layout) (items : List ℕ) : Type 0 where
  pub wide : (0 < l.width) × (l.width ≤ 16384)
  pub high : (0 < l.height) × (l.height ≤ 16384)
  pub border_small : l.border ≤ 64
  pub stride_small : (l.width ≤ l.stride) × (l.stride ≤ 16512)
  pub room : length items ≡ bordered_side l.width l.border * bordered_side l.height l.border
  pub rows_fit : l.first + l.height * l.stride ≤ length items
  pub flat_at_front : l.stride ≡ l.width → l.first ≡ 0
  pub apart : l.width < l.stride → (l.stride ≡ bordered_side l.width l.border) × (l.first ≡ l.border * bordered_side l.width l.border + l.border)
