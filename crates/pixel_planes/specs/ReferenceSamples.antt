-- Samples at any position of a plane, of its border, or outside both, as prediction reads them.
use Rattle.std.specs.Prelude.{◌≡◌, ℕ, ◌+◌, ◌-◌, ◌*◌, ◌<◌, ◌≤◌, min, Bool, true, false, ◌&&◌, List, length, slice_index, ℤ, pos, negsuc, ◌+ℤ◌, ◌≤ℤ◌, neg_ℤ, int_le}
use Rattle.pixel_planes.specs.Samples.{Samples, PlaneValue, sample_at, uniform, bordered, out_of_date}

-- a coordinate clamped to a side: its first index before it, its last index after it
abbrev pub clamped_coordinate : ℕ → ℤ → ℕ
clamped_coordinate side (pos place) = min place (side - 1)
clamped_coordinate side (negsuc before) = 0

-- the sample at these coordinates, clamped to the plane: past an edge its samples continue (section 18 of RFC 6386)
unfoldable pub reference_sample : Samples → ℤ → ℤ → ℕ
reference_sample p x y = sample_at p (clamped_coordinate p.width x) (clamped_coordinate p.height y)

-- whether `count` coordinates starting at this one are in a side or in the border on both sides of it
abbrev pub spans_within : ℕ → ℕ → ℤ → ℕ → Bool
spans_within side border place count = int_le (neg_ℤ (pos border)) place && int_le (place +ℤ pos count) (pos (side + border))

-- whether a rectangle, whose first sample is at (x, y), is in the plane or in its border, and the border is up to date
abbrev pub is_within_border : PlaneValue → ℤ → ℤ → ℕ → ℕ → Bool
is_within_border plane x y width height =
    plane.is_current && spans_within plane.shown.width plane.border x width && spans_within plane.shown.height plane.border y height

-- n samples from (x, y) to the right, each the reference sample of its position
pub record IsSpan (p : Samples) (x y : ℤ) (n : ℕ) (samples : List ℕ) : Type 0 where
  pub len : length samples ≡ n
  pub each : (column : ℕ) → column < n → slice_index samples column ≡ reference_sample p (x +ℤ pos column) y

-- rows of samples, `stride` apart, from (x, y) to the right and down, each the reference sample of its position
pub record IsWindow (p : Samples) (x y : ℤ) (width height : ℕ) (samples : List ℕ) (stride : ℕ) : Type 0 where
  pub room : (height - 1) * stride + width ≤ length samples
  pub wide : width ≤ stride
  pub small : stride ≤ 16512
  pub each : (column row : ℕ) → column < width → row < height → slice_index samples (row * stride + column) ≡ reference_sample p (x +ℤ pos column) (y +ℤ pos row)

-- the samples of a plane and past its edges: in the plane its own, and past an edge the edge's
pub record GoesOnPastItsEdges : Type 0 where
  pub inside : (p : Samples) (x y : ℕ) → x < p.width → y < p.height → reference_sample p (pos x) (pos y) ≡ sample_at p x y
  pub left : (p : Samples) (x y : ℤ) → x ≤ℤ pos 0 → reference_sample p x y ≡ reference_sample p (pos 0) y
  pub right : (p : Samples) (x y : ℤ) → pos (p.width - 1) ≤ℤ x → reference_sample p x y ≡ reference_sample p (pos (p.width - 1)) y
  pub above : (p : Samples) (x y : ℤ) → y ≤ℤ pos 0 → reference_sample p x y ≡ reference_sample p x (pos 0)
  pub below : (p : Samples) (x y : ℤ) → pos (p.height - 1) ≤ℤ y → reference_sample p x y ≡ reference_sample p x (pos (p.height - 1))

-- a plane of 16 by 16 samples with a border of 32: the whole of its first row with the border, one more sample, the row after the last one, and any position once the border is out of date
abbrev pub BorderOf16By16 : Type 0
BorderOf16By16 =
    let plane : PlaneValue = bordered (uniform 16 16 0) 32 in
    (is_within_border plane (negsuc 31) (negsuc 31) 80 1 ≡ true) × (is_within_border plane (negsuc 31) (negsuc 31) 81 1 ≡ false) × (is_within_border plane (pos 0) (pos 48) 1 1 ≡ false) × (is_within_border (out_of_date plane) (pos 0) (pos 0) 1 1 ≡ false)
