-- The sums of inter prediction as the code computes them: positive and negative products are summed separately, so no number is below 0.
use Rattle.std.specs.Prelude.{◌≡◌, ◌⊎◌, nat_lt, if◌then◌else◌, ℕ, ◌+◌, ◌-◌, ◌*◌, ◌/◌, ◌<◌, ◌≤◌, min, List, [], length, slice_index, slice_index_or, ℤ, pos, neg_ℤ, negsuc, ◌+ℤ◌, ◌-ℤ◌, ◌≤ℤ◌}
use Rattle.pixel_planes.specs.Samples.{Samples}
use Rattle.pixel_planes.specs.ReferenceSamples.{IsWindow}
use Rattle.inter_predict.specs.InterSample.{between, fraction, predicted, whole_part}
use Rattle.inter_predict.specs.declared.kinds.Kind.{Kind}
use Rattle.inter_predict.specs.declared.rows.Strip.{Strip}
use Rattle.inter_predict.specs.declared.taps.Taps.{Taps}
use Rattle.inter_predict.specs.declared.taps.TheConstants.{SIX_TAPS}

-- six numbers as taps: those of a six-tap filter have its number of eighths, others 0
abbrev pub taps_of : List ℕ → ℕ → Taps
taps_of row eighths = record { a = slice_index row 0; b = slice_index row 1; c = slice_index row 2; d = slice_index row 3; e = slice_index row 4; f = slice_index row 5; eighths = eighths }

-- the taps of a six-tap filter
abbrev pub six_taps : ℕ → Taps
six_taps eighths = taps_of (slice_index_or SIX_TAPS eighths []) eighths

-- the sample that taps return for six samples
unfoldable pub tapped : Taps → (ℕ → ℕ) → ℕ
tapped t samples = min ((samples 0 * t.a + samples 2 * t.c + samples 3 * t.d + samples 5 * t.f + 64 - (samples 1 * t.b + samples 4 * t.e)) / 128) 255

-- the taps are so small that sums of samples stay within 16 bits, their number of eighths is right, and if the third is 128 the others are 0
pub record IsTaps (t : Taps) : Type 0 where
  pub added : t.a + t.c + t.d + t.f ≤ 160
  pub taken : t.b + t.e ≤ 32
  pub known : 0 < t.eighths → (t.eighths < 8) × (t ≡ six_taps t.eighths)
  pub alone : t.c ≡ 128 → (t.a ≡ 0) × (t.b ≡ 0) × (t.d ≡ 0) × (t.e ≡ 0) × (t.f ≡ 0)

-- the first tap and the last are 0
abbrev pub AreFour : Taps → Type 0
AreFour t = (t.a ≡ 0) × (t.f ≡ 0)

-- all taps but the middle two are 0
abbrev pub AreTwo : Taps → Type 0
AreTwo t = (t.a ≡ 0) × (t.b ≡ 0) × (t.e ≡ 0) × (t.f ≡ 0)

-- a coordinate whose neighbours fit in 64 bits too
abbrev pub IsNear : ℤ → Type 0
IsNear place = (neg_ℤ (pos 4294967296) ≤ℤ place) × (place ≤ℤ pos 4294967296)

-- a coordinate as far as prediction reaches: past every side of a plane
abbrev pub IsReached : ℤ → Type 0
IsReached place = (neg_ℤ (pos 1099511627776) ≤ℤ place) × (place ≤ℤ pos 1099511627776)

-- the sample that taps return for six samples `step` apart
abbrev pub tapped_at : Taps → List ℕ → ℕ → ℕ → ℕ
tapped_at t samples step place = tapped t (λ k. slice_index samples (place + k * step))

-- the sample that taps return for six samples of a column, each of which taps return for six samples of a row, in rows `stride` samples apart
abbrev pub tapped_twice : Taps → Taps → List ℕ → ℕ → ℕ → ℕ → ℕ
tapped_twice across down samples stride column row = tapped down (λ j. tapped_at across samples 1 ((row + j) * stride + column))

-- `n` lanes hold the samples of a line
pub record IsLine (n : ℕ) (sample : ℕ → ℕ) (lanes : List ℕ) : Type 0 where
  pub value : (lane : ℕ) → lane < n → slice_index lanes lane ≡ sample lane
  pub bytes : (lane : ℕ) → lane < n → slice_index lanes lane < 256

-- the sample that taps return for six samples in a lane, the first in line (or from place) `at`
abbrev pub tapped_from : Taps → (ℕ → ℕ → ℕ) → ℕ → ℕ → ℕ
tapped_from t sample lane at = tapped t (λ k. sample (at + k) lane)

-- eight lanes of each of two lines
abbrev pub paired : (ℕ → ℕ) → (ℕ → ℕ) → ℕ → ℕ
paired one other lane = if nat_lt lane 8 then one lane else other (lane - 8)

-- row `number` is near enough, and has the places that taps read
abbrev pub HasRow : (ℕ → Type 0) → ℕ → ℕ → ℕ → Type 0
HasRow has stride start number = (number * stride + start ≤ 1099511627776) × ((place : ℕ) → number * stride + start ≤ place → place < number * stride + start + 6 → has place)

-- a strip of this width is in a list of this length, and its rows are apart
abbrev pub IsRoomFor : Strip → ℕ → ℕ → Type 0
IsRoomFor strip width len = (strip.first + width ≤ strip.stride) × ((strip.height - 1) * strip.stride + (strip.first + width) ≤ len)

-- the strip of `width` columns that starts at column `first`, in `height` rows `stride` samples apart, holds in each column of each row the sample that `sample` returns, and every other sample is as in `old`
pub record IsStrip (sample : ℕ → ℕ → ℕ) (first width height stride : ℕ) (old new : List ℕ) : Type 0 where
  pub whole : length new ≡ length old
  pub each : (column row : ℕ) → column < width → row < height → slice_index new (row * stride + (first + column)) ≡ sample column row
  pub others : (column row : ℕ) → column < stride → (column < first) ⊎ ((first + width ≤ column) ⊎ (height ≤ row)) → slice_index new (row * stride + column) ≡ slice_index old (row * stride + column)

-- these are the taps of a filter: they make the sample that is this many eighths after a position of any line
abbrev pub AreTapsOf : Taps → Kind → ℕ → Type 0
AreTapsOf taps kind eighths = (line : ℤ → ℕ) (place : ℤ) → between kind eighths line place ≡ tapped taps (λ k. line ((place -ℤ pos 2) +ℤ pos k))

-- the samples in a lane, the first in line (or from place) `at`
abbrev pub line_from : (ℕ → ℕ → ℕ) → ℕ → ℕ → ℤ → ℕ
line_from sample lane at (pos k) = sample (at + k) lane
line_from sample lane at (negsuc k) = 0

-- the sample between those in a lane: the third of the six that the taps read is the sample at its position
abbrev pub between_in : Kind → ℕ → (ℕ → ℕ → ℕ) → ℕ → ℕ → ℕ
between_in kind eighths sample lane at = between kind eighths (line_from sample lane at) (pos 2)

-- the input of a kernel that predicts a block of this width and height at (x, y) by a vector: the window of reference samples that begins two columns and two rows before the whole samples that the vector points to, and the taps of both filters
pub record IsInput (kind : Kind) (p : Samples) (x y right below : ℤ) (width height : ℕ) (across down : Taps) (samples : List ℕ) (stride : ℕ) : Type 0 where
  pub across_is : AreTapsOf across kind (fraction right)
  pub down_is : AreTapsOf down kind (fraction below)
  pub window : IsWindow p ((x +ℤ whole_part right) -ℤ pos 2) ((y +ℤ whole_part below) -ℤ pos 2) (width + 5) (height + 5) samples stride

-- from such input, of any plane, position and vector, the strip of these columns holds the block's inter samples
abbrev pub Predicts : Taps → Taps → List ℕ → ℕ → ℕ → ℕ → ℕ → ℕ → List ℕ → List ℕ → Type 0
Predicts across down samples stride first columns height out_stride old new =
    (kind : Kind) (p : Samples) (x y right below : ℤ) → IsInput kind p x y right below (first + columns) height across down samples stride →
    IsStrip (λ column row. predicted kind p x y right below (first + column) row) first columns height out_stride old new
