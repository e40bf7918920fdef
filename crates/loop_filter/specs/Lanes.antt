-- The filters in numbers of 8 bits, as lanes store them: a number that may be below 0 has an offset added, as a sample has 128.
use Rattle.std.specs.Prelude.{◌≡◌, ℕ, ◌+◌, ◌-◌, ◌*◌, ◌/◌, ◌<◌, min, max, zero, suc, if◌then◌else◌, nat_eq, List, [], ◌∷◌, ◌++◌, map, slice_index, slice_index_or}
use Rattle.std.specs.Simd.Lanes.{put_chunk}
use Rattle.std.specs.Int.{abs_diff}
use Rattle.loop_filter.specs.Lines.{Line}
use Rattle.loop_filter.specs.declared.edge_limits.EdgeLimits.{EdgeLimits}
use Rattle.loop_filter.specs.declared.kernels.WideTaps.{WideTaps}
use Rattle.loop_filter.specs.declared.taps.Taps.{Taps}

-- each of the thirty-two lanes of a result is f of that lane of one vector, or of two
abbrev pub Each : (ℕ → ℕ) → List ℕ → List ℕ → Type 0
Each f a result = (i : ℕ) → i < 32 → slice_index result i ≡ f (slice_index a i)

abbrev pub Each2 : (ℕ → ℕ → ℕ) → List ℕ → List ℕ → List ℕ → Type 0
Each2 f a b result = (i : ℕ) → i < 32 → slice_index result i ≡ f (slice_index a i) (slice_index b i)

-- each lane has 8 bits
abbrev pub AreSamples : List ℕ → Type 0
AreSamples a = (i : ℕ) → i < 32 → slice_index a i < 256

-- the sum of two numbers, clamped to 255
abbrev pub sum_of : ℕ → ℕ → ℕ
sum_of x y = min (x + y) 255

-- a sample with a number added that has an offset, and with it subtracted
unfoldable pub raised_by : ℕ → ℕ → ℕ → ℕ
raised_by offset x d = sum_of x (d - offset) - (offset - d)

unfoldable pub lowered_by : ℕ → ℕ → ℕ → ℕ
lowered_by offset x d = sum_of x (offset - d) - (d - offset)

-- the difference of two samples, at offset 128
unfoldable pub difference_of : ℕ → ℕ → ℕ
difference_of x y = sum_of 128 (x - y) - (y - x)

-- three times q0 - p0, added to a number
unfoldable pub shortfall_from : ℕ → ℕ → ℕ → ℕ
shortfall_from start p0 q0 = sum_of (sum_of (sum_of start (q0 - p0)) (q0 - p0)) (q0 - p0) - (p0 - q0) - (p0 - q0) - (p0 - q0)

-- an eighth of a number at offset 128 that n was added to, at offset 16
unfoldable pub eighth_of : ℕ → ℕ → ℕ
eighth_of n w = sum_of w n / 8

-- half of an eighth, rounded, at offset 8
unfoldable pub half_of : ℕ → ℕ
half_of e = (e + 1) / 2

-- a number at offset 128 times k, in 128ths, at offset k
unfoldable pub adjustment_of : ℕ → ℕ → ℕ
adjustment_of k w = (w * k + 63) / 128

-- the excess of the step at the edge over its limit: 0 if there is none
unfoldable pub step_over_of : ℕ → ℕ → ℕ → ℕ → ℕ → ℕ
step_over_of limit p1 p0 q0 q1 = sum_of (sum_of (abs_diff p0 q0) (abs_diff p0 q0)) (abs_diff p1 q1 / 2) - limit

-- the greatest of the differences on one side of the edge
unfoldable pub side_of : ℕ → ℕ → ℕ → ℕ → ℕ
side_of s3 s2 s1 s0 = max (max (abs_diff s3 s2) (abs_diff s2 s1)) (abs_diff s1 s0)

-- the excess of the greater of two differences over the threshold
unfoldable pub variance_over_of : ℕ → ℕ → ℕ → ℕ → ℕ → ℕ
variance_over_of threshold p1 p0 q0 q1 = max (abs_diff p1 p0) (abs_diff q1 q0) - threshold

-- the excess of a line over the limits of a normal filter: 0 if it is filtered
unfoldable pub excess_of : EdgeLimits → Line → ℕ
excess_of limits l = sum_of (step_over_of limits.edge l.p1 l.p0 l.q0 l.q1) (max (side_of l.p3 l.p2 l.p1 l.p0) (side_of l.q3 l.q2 l.q1 l.q0) - limits.interior)

-- one of two numbers, the first if a test left 0
abbrev pub either_of : ℕ → ℕ → ℕ → ℕ
either_of test none other = if nat_eq test 0 then none else other

-- line i of sixteen, and of thirty-two
abbrev pub line_at : Taps → ℕ → Line
line_at t i = record {
  p3 = slice_index t.p3 i;
  p2 = slice_index t.p2 i;
  p1 = slice_index t.p1 i;
  p0 = slice_index t.p0 i;
  q0 = slice_index t.q0 i;
  q1 = slice_index t.q1 i;
  q2 = slice_index t.q2 i;
  q3 = slice_index t.q3 i;
}

abbrev pub wide_line_at : WideTaps → ℕ → Line
wide_line_at t i = record {
  p3 = slice_index t.p3 i;
  p2 = slice_index t.p2 i;
  p1 = slice_index t.p1 i;
  p0 = slice_index t.p0 i;
  q0 = slice_index t.q0 i;
  q1 = slice_index t.q1 i;
  q2 = slice_index t.q2 i;
  q3 = slice_index t.q3 i;
}

-- the eight vectors of sixteen lines: number k holds sample k of each line
abbrev pub vectors : Taps → List (List ℕ)
vectors t = t.p3 ∷ t.p2 ∷ t.p1 ∷ t.p0 ∷ t.q0 ∷ t.q1 ∷ t.q2 ∷ t.q3 ∷ []

-- those of thirty-two lines
abbrev pub wide_vectors : WideTaps → List (List ℕ)
wide_vectors t = t.p3 ∷ t.p2 ∷ t.p1 ∷ t.p0 ∷ t.q0 ∷ t.q1 ∷ t.q2 ∷ t.q3 ∷ []

abbrev pub vector : Taps → ℕ → List ℕ
vector t k = slice_index_or (vectors t) k []

-- sample k of sixteen lines, if number i of eight vectors holds lines i and i + 8, their samples alternating
abbrev pub column_of : ℕ → List (List ℕ) → List ℕ
column_of k interleaved = map (λ lanes. slice_index lanes (2 * k)) interleaved ++ map (λ lanes. slice_index lanes (2 * k + 1)) interleaved

-- sample k of thirty-two lines, if both halves of the vectors hold lines in this way
abbrev pub wide_column_of : ℕ → List (List ℕ) → List ℕ
wide_column_of k interleaved = column_of k interleaved ++ column_of (8 + k) interleaved

-- some lanes of eight vectors hold lines of adjacent samples: those of vector n the line that begins n strides after `start`
abbrev pub HoldLines : (ℕ → ℕ) → List (List ℕ) → List ℕ → ℕ → ℕ → Type 0
HoldLines lane interleaved samples start stride = (n k : ℕ) → n < 8 → k < 8 → slice_index (slice_index_or interleaved n []) (lane k) ≡ slice_index samples (start + n * stride + k)

-- line i of sixteen, if number k of eight vectors holds sample k of each
abbrev pub row_of : ℕ → List (List ℕ) → List ℕ
row_of i columns = map (λ lanes. slice_index lanes i) columns

-- eight lanes of a vector, starting at one
abbrev pub eight_from : ℕ → List ℕ → List ℕ
eight_from first lanes = map (λ k. slice_index lanes (first + k)) (0 ∷ 1 ∷ 2 ∷ 3 ∷ 4 ∷ 5 ∷ 6 ∷ 7 ∷ [])

-- eight lanes of each of two vectors, starting at one, alternately one of a and one of b
abbrev pub interleaved_from : ℕ → List ℕ → List ℕ → List ℕ
interleaved_from first a b =
    slice_index a (first + 0) ∷ slice_index b (first + 0) ∷ slice_index a (first + 1) ∷ slice_index b (first + 1) ∷ slice_index a (first + 2) ∷ slice_index b (first + 2) ∷ slice_index a (first + 3) ∷ slice_index b (first + 3)
    ∷ slice_index a (first + 4) ∷ slice_index b (first + 4) ∷ slice_index a (first + 5) ∷ slice_index b (first + 5) ∷ slice_index a (first + 6) ∷ slice_index b (first + 6) ∷ slice_index a (first + 7) ∷ slice_index b (first + 7) ∷ []

-- the same in both halves of vectors of thirty-two lanes
unfoldable pub interleaved_halves : ℕ → List ℕ → List ℕ → List ℕ
interleaved_halves first a b = interleaved_from first a b ++ interleaved_from (16 + first) a b

-- the rows of vectors that hold two each, one after the other
abbrev pub rows_of : List (List ℕ) → List (List ℕ)
rows_of [] = []
rows_of (pair ∷ pairs) = eight_from 0 pair ∷ eight_from 8 pair ∷ rows_of pairs

-- row i of them
abbrev pub row_in_pairs : List (List ℕ) → ℕ → List ℕ
row_in_pairs pairs i = slice_index_or (rows_of pairs) i []

-- the samples with `n` rows written, the first at `start` and each further one `stride` samples after the one before it
unfoldable pub rows_put : List ℕ → ℕ → ℕ → (ℕ → List ℕ) → ℕ → List ℕ
rows_put samples start stride row zero = samples
rows_put samples start stride row (suc n) = put_chunk (start + n * stride) (rows_put samples start stride row n) (row n)

-- three edges four samples apart cross a row of sixteen samples: the line across the second, of which the first was filtered to `first`, and the line across the third, of which the second was filtered to `middle`
abbrev pub middle_line : Line → Line → Line
middle_line first right = record { p3 = first.q0; p2 = first.q1; p1 = first.q2; p0 = first.q3; q0 = right.p3; q1 = right.p2; q2 = right.p1; q3 = right.p0 }

abbrev pub last_line : Line → Line → Line
last_line middle right = record right { p3 = middle.q0; p2 = middle.q1; p1 = middle.q2; p0 = middle.q3 }

-- the left and the right eight samples of such a row after the filters of the second and the third edge
abbrev pub left_after : (Line → Line) → Line → Line → Line
left_after filter first right = let middle = filter (middle_line first right) in record first { q0 = middle.p3; q1 = middle.p2; q2 = middle.p1; q3 = middle.p0 }

abbrev pub right_after : (Line → Line) → Line → Line → Line
right_after filter first right = filter (last_line (filter (middle_line first right)) right)
