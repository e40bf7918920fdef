-- Samples in rows, and the model of a plane.
use Rattle.std.specs.Prelude.{◌≡◌, ℕ, Bool, true, false, ◌+◌, ◌*◌, ◌<◌, ◌≤◌, ◌==◌, if◌then◌else◌, List, length, replicate, slice_index, slice_range}
use Rattle.std.specs.Simd.Lanes.{put_chunk}

-- a plane of `height` rows of `width` samples, concatenated
pub record Samples : Type 0 where
  pub width : ℕ
  pub height : ℕ
  pub samples : List ℕ

-- both sides are 1 to 16,384, and there is a sample for each position
abbrev pub IsWhole : Samples → Type 0
IsWhole p = (0 < p.width) × (p.width ≤ 16384) × (0 < p.height) × (p.height ≤ 16384) × (length p.samples ≡ p.width * p.height)

-- the plane of these sides whose samples are all `value`
abbrev pub uniform : ℕ → ℕ → ℕ → Samples
uniform width height value = record { width = width; height = height; samples = replicate (width * height) value }

-- the sample in column x of row y
abbrev pub sample_at : Samples → ℕ → ℕ → ℕ
sample_at p x y = slice_index p.samples (y * p.width + x)

-- row y
abbrev pub row_of : Samples → ℕ → List ℕ
row_of p y = slice_range p.samples (y * p.width) (y * p.width + p.width)

-- the plane with `row` written over row y
abbrev pub with_row : Samples → ℕ → List ℕ → Samples
with_row p y row = record p { samples = put_chunk (y * p.width) p.samples row }

-- a plane: its shown samples, the number of rows and columns of border around them, and whether the border repeats the current edges of the shown samples
pub record PlaneValue : Type 0 where
  pub shown : Samples
  pub border : ℕ
  pub is_current : Bool

-- the plane of these samples with a border of this width, which is up to date
abbrev pub bordered : Samples → ℕ → PlaneValue
bordered samples border = record { shown = samples; border = border; is_current = true }

-- the plane with `row` written over shown row y; its border is then out of date
abbrev pub with_row_written : PlaneValue → ℕ → List ℕ → PlaneValue
with_row_written plane y row = record plane { shown = with_row plane.shown y row; is_current = false }

-- the plane with all its shown samples written over, row after row; its border is then out of date
abbrev pub with_samples_written : PlaneValue → List ℕ → PlaneValue
with_samples_written plane samples = record plane { shown = record plane.shown { samples = put_chunk 0 plane.shown.samples samples }; is_current = false }

-- the plane with its border out of date
abbrev pub out_of_date : PlaneValue → PlaneValue
out_of_date plane = record plane { is_current = false }

-- the plane with its border up to date
abbrev pub brought_up_to_date : PlaneValue → PlaneValue
brought_up_to_date plane = record plane { is_current = true }

-- a row that is written has the samples written, and every other row is unchanged
abbrev pub WritesOneRow : Type 0
WritesOneRow = (p : Samples) (y : ℕ) (row : List ℕ) (x other : ℕ) → IsWhole p → length row ≡ p.width → y < p.height → x < p.width → other < p.height → sample_at (with_row p y row) x other ≡ (if other == y then slice_index row x else sample_at p x other)
