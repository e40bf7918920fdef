-- Lines that are loaded from samples and stored.
use Rattle.std.specs.Prelude.{slice_index, slice_index_or}
use Rattle.std.specs.Simd.Lanes.{put_chunk}
use Rattle.std.proofs.Common.{◌≡◌, ℕ, suc, ◌+◌, ◌-◌, ◌*◌, ◌<◌, ◌≤◌, inl, inr, List, [], ◌∷◌, ◌++◌, map, refl, ap, subst, ◌∙◌, arith}
use Rattle.std.proofs.lemmas.Bool.{cases_lt}
use Rattle.loop_filter.specs.declared.kernels.WideTaps.{WideTaps}
use Rattle.loop_filter.specs.declared.taps.Taps.{Taps}
use Rattle.loop_filter.specs.Lines.{Line}
use Rattle.loop_filter.specs.Edges.{line_in}
use Rattle.loop_filter.specs.Lanes.{HoldLines, line_at, wide_line_at, vector, column_of, wide_column_of, eight_from, row_in_pairs, rows_put}
use Rattle.loop_filter.proofs.EdgeFold.{same_line, samples_of}
use Rattle.loop_filter.proofs.Transposed.{below_eight}

-- the line whose samples are in lanes of one vector
abbrev pub lanes_line : (ℕ → ℕ) → List ℕ → Line
lanes_line lane w = record {
  p3 = slice_index w (lane 0);
  p2 = slice_index w (lane 1);
  p1 = slice_index w (lane 2);
  p0 = slice_index w (lane 3);
  q0 = slice_index w (lane 4);
  q1 = slice_index w (lane 5);
  q2 = slice_index w (lane 6);
  q3 = slice_index w (lane 7);
}

lanes_are : (lane : ℕ → ℕ) (w s : List ℕ) (place : ℕ) → ((k : ℕ) → k < 8 → slice_index w (lane k) ≡ slice_index s (place + k)) → lanes_line lane w ≡ line_in s place 1
lanes_are lane w s place is =
    let none : place + 0 ≡ place = omega arith in
    same_line (lanes_line lane w) (line_in s place 1) (is 0 (omega arith) ∙ ap (slice_index s) none) (is 1 (omega arith)) (is 2 (omega arith)) (is 3 (omega arith)) (is 4 (omega arith)) (is 5 (omega arith)) (is 6 (omega arith)) (is 7 (omega arith))

-- the lanes of one vector hold a line
abbrev pub Holds : (ℕ → ℕ) → List ℕ → List ℕ → ℕ → Type 0
Holds lane w s place = (k : ℕ) → k < 8 → slice_index w (lane k) ≡ slice_index s (place + k)

pub eight_hold : (lane : ℕ → ℕ) (w0 w1 w2 w3 w4 w5 w6 w7 s : List ℕ) (start stride : ℕ) → Holds lane w0 s start → Holds lane w1 s (start + stride) → Holds lane w2 s (start + 2 * stride) → Holds lane w3 s (start + 3 * stride) → Holds lane w4 s (start + 4 * stride) → Holds lane w5 s (start + 5 * stride) → Holds lane w6 s (start + 6 * stride) → Holds lane w7 s (start + 7 * stride)
    → HoldLines lane (w0 ∷ w1 ∷ w2 ∷ w3 ∷ w4 ∷ w5 ∷ w6 ∷ w7 ∷ []) s start stride
eight_hold lane w0 w1 w2 w3 w4 w5 w6 w7 s start stride h0 h1 h2 h3 h4 h5 h6 h7 n k less below =
    let none : start ≡ start + 0 * stride = omega arith in
    let one : start + stride ≡ start + 1 * stride = omega arith in
    below_eight (λ n. Holds lane (slice_index_or (w0 ∷ w1 ∷ w2 ∷ w3 ∷ w4 ∷ w5 ∷ w6 ∷ w7 ∷ []) n []) s (start + n * stride)) (subst (Holds lane w0 s) none h0) (subst (Holds lane w1 s) one h1) h2 h3 h4 h5 h6 h7 n less k below

pub eight_lines : (line : ℕ → Line) (lane : ℕ → ℕ) (w0 w1 w2 w3 w4 w5 w6 w7 s : List ℕ) (start stride : ℕ) → line 0 ≡ lanes_line lane w0 → line 1 ≡ lanes_line lane w1 → line 2 ≡ lanes_line lane w2 → line 3 ≡ lanes_line lane w3 → line 4 ≡ lanes_line lane w4 → line 5 ≡ lanes_line lane w5 → line 6 ≡ lanes_line lane w6 → line 7 ≡ lanes_line lane w7
    → HoldLines lane (w0 ∷ w1 ∷ w2 ∷ w3 ∷ w4 ∷ w5 ∷ w6 ∷ w7 ∷ []) s start stride → (i : ℕ) → i < 8 → line i ≡ line_in s (start + i * stride) 1
eight_lines line lane w0 w1 w2 w3 w4 w5 w6 w7 s start stride e0 e1 e2 e3 e4 e5 e6 e7 hold =
    below_eight (λ i. line i ≡ line_in s (start + i * stride) 1)
    (e0 ∙ lanes_are lane w0 s (start + 0 * stride) (λ k less. hold 0 k (omega arith) less))
    (e1 ∙ lanes_are lane w1 s (start + 1 * stride) (λ k less. hold 1 k (omega arith) less))
    (e2 ∙ lanes_are lane w2 s (start + 2 * stride) (λ k less. hold 2 k (omega arith) less))
    (e3 ∙ lanes_are lane w3 s (start + 3 * stride) (λ k less. hold 3 k (omega arith) less))
    (e4 ∙ lanes_are lane w4 s (start + 4 * stride) (λ k less. hold 4 k (omega arith) less))
    (e5 ∙ lanes_are lane w5 s (start + 5 * stride) (λ k less. hold 5 k (omega arith) less))
    (e6 ∙ lanes_are lane w6 s (start + 6 * stride) (λ k less. hold 6 k (omega arith) less))
    (e7 ∙ lanes_are lane w7 s (start + 7 * stride) (λ k less. hold 7 k (omega arith) less))

-- the first sixteen lanes of wider vectors, and the other sixteen
pub first_hold : (lane : ℕ → ℕ) (ws parts : List (List ℕ)) (s : List ℕ) (start stride : ℕ) → ((k : ℕ) → k < 8 → lane k < 16)
    → ((n : ℕ) → n < 8 → (i : ℕ) → i < 16 → slice_index (slice_index_or ws n []) i ≡ slice_index (slice_index_or parts n []) i) → HoldLines lane parts s start stride → HoldLines lane ws s start stride
first_hold lane ws parts s start stride short same hold n k less below = same n less (lane k) (short k below) ∙ hold n k less below

pub second_hold : (lane : ℕ → ℕ) (ws parts : List (List ℕ)) (s : List ℕ) (start stride : ℕ) → ((k : ℕ) → k < 8 → lane k < 16)
    → ((n : ℕ) → n < 8 → (i : ℕ) → i < 16 → slice_index (slice_index_or ws n []) (16 + i) ≡ slice_index (slice_index_or parts n []) i) → HoldLines lane parts s start stride → HoldLines (λ k. 16 + lane k) ws s start stride
second_hold lane ws parts s start stride short same hold n k less below = same n less (lane k) (short k below) ∙ hold n k less below

-- vectors of columns
abbrev pub turned : List (List ℕ) → Taps
turned ws = record { p3 = column_of 0 ws; p2 = column_of 1 ws; p1 = column_of 2 ws; p0 = column_of 3 ws; q0 = column_of 4 ws; q1 = column_of 5 ws; q2 = column_of 6 ws; q3 = column_of 7 ws }

pub is_turned : (t : Taps) (ws : List (List ℕ)) → t.p3 ≡ column_of 0 ws → t.p2 ≡ column_of 1 ws → t.p1 ≡ column_of 2 ws → t.p0 ≡ column_of 3 ws → t.q0 ≡ column_of 4 ws → t.q1 ≡ column_of 5 ws → t.q2 ≡ column_of 6 ws → t.q3 ≡ column_of 7 ws
    → (i : ℕ) → line_at t i ≡ line_at (turned ws) i
is_turned t ws e0 e1 e2 e3 e4 e5 e6 e7 i =
    same_line (line_at t i) (line_at (turned ws) i) (ap (λ l. slice_index l i) e0) (ap (λ l. slice_index l i) e1) (ap (λ l. slice_index l i) e2) (ap (λ l. slice_index l i) e3) (ap (λ l. slice_index l i) e4) (ap (λ l. slice_index l i) e5) (ap (λ l. slice_index l i) e6) (ap (λ l. slice_index l i) e7)

abbrev pub wide_turned : List (List ℕ) → WideTaps
wide_turned ws = record { p3 = wide_column_of 0 ws; p2 = wide_column_of 1 ws; p1 = wide_column_of 2 ws; p0 = wide_column_of 3 ws; q0 = wide_column_of 4 ws; q1 = wide_column_of 5 ws; q2 = wide_column_of 6 ws; q3 = wide_column_of 7 ws }

pub is_wide_turned : (t : WideTaps) (ws : List (List ℕ)) → t.p3 ≡ wide_column_of 0 ws → t.p2 ≡ wide_column_of 1 ws → t.p1 ≡ wide_column_of 2 ws → t.p0 ≡ wide_column_of 3 ws
    → t.q0 ≡ wide_column_of 4 ws → t.q1 ≡ wide_column_of 5 ws → t.q2 ≡ wide_column_of 6 ws → t.q3 ≡ wide_column_of 7 ws → (i : ℕ) → wide_line_at t i ≡ wide_line_at (wide_turned ws) i
is_wide_turned t ws e0 e1 e2 e3 e4 e5 e6 e7 i =
    same_line (wide_line_at t i) (wide_line_at (wide_turned ws) i) (ap (λ l. slice_index l i) e0) (ap (λ l. slice_index l i) e1) (ap (λ l. slice_index l i) e2) (ap (λ l. slice_index l i) e3) (ap (λ l. slice_index l i) e4) (ap (λ l. slice_index l i) e5) (ap (λ l. slice_index l i) e6) (ap (λ l. slice_index l i) e7)

-- eight rows that are written in sequence
pub eight_rows : (s : List ℕ) (start stride : ℕ) (row : ℕ → List ℕ)
    → put_chunk (start + 7 * stride) (put_chunk (start + 6 * stride) (put_chunk (start + 5 * stride) (put_chunk (start + 4 * stride) (put_chunk (start + 3 * stride) (put_chunk (start + 2 * stride) (put_chunk (start + stride) (put_chunk start s (row 0)) (row 1)) (row 2)) (row 3)) (row 4)) (row 5)) (row 6)) (row 7)
    ≡ rows_put s start stride row 8
unfolding rows_put
eight_rows s start stride row =
    let none : start ≡ start + 0 * stride = omega arith in
    let one : start + stride ≡ start + 1 * stride = omega arith in
    let six : List ℕ → List ℕ = λ (x : List ℕ). put_chunk (start + 7 * stride) (put_chunk (start + 6 * stride) (put_chunk (start + 5 * stride) (put_chunk (start + 4 * stride) (put_chunk (start + 3 * stride) (put_chunk (start + 2 * stride) x (row 2)) (row 3)) (row 4)) (row 5)) (row 6)) (row 7) in
    ap (λ (p : ℕ). six (put_chunk (start + stride) (put_chunk p s (row 0)) (row 1))) none ∙ ap (λ (p : ℕ). six (put_chunk p (put_chunk (start + 0 * stride) s (row 0)) (row 1))) one

-- and two by two
pub four_pairs : (s a b c d : List ℕ) (start stride : ℕ) (s1 s2 s3 s4 : List ℕ)
    → s1 ≡ put_chunk (start + stride) (put_chunk start s (eight_from 0 a)) (eight_from 8 a)
    → s2 ≡ put_chunk (start + 2 * stride + stride) (put_chunk (start + 2 * stride) s1 (eight_from 0 b)) (eight_from 8 b)
    → s3 ≡ put_chunk (start + 4 * stride + stride) (put_chunk (start + 4 * stride) s2 (eight_from 0 c)) (eight_from 8 c)
    → s4 ≡ put_chunk (start + 6 * stride + stride) (put_chunk (start + 6 * stride) s3 (eight_from 0 d)) (eight_from 8 d)
    → s4 ≡ rows_put s start stride (row_in_pairs (a ∷ b ∷ c ∷ d ∷ [])) 8
four_pairs s a b c d start stride s1 s2 s3 s4 e1 e2 e3 e4 =
    let three : start + 2 * stride + stride ≡ start + 3 * stride = omega arith in
    let five : start + 4 * stride + stride ≡ start + 5 * stride = omega arith in
    let seven : start + 6 * stride + stride ≡ start + 7 * stride = omega arith in
    rw (e4, e3, e2, e1, three, five, seven) (eight_rows s start stride (row_in_pairs (a ∷ b ∷ c ∷ d ∷ [])))

-- a column that is loaded from eight rows
pub loaded_column : (s : List ℕ) (start stride i : ℕ) (l : Line) → l.p3 ≡ slice_index s (start + i) → l.p2 ≡ slice_index s (start + stride + i) → l.p1 ≡ slice_index s (start + 2 * stride + i) → l.p0 ≡ slice_index s (start + 3 * stride + i)
    → l.q0 ≡ slice_index s (start + 4 * stride + i) → l.q1 ≡ slice_index s (start + 5 * stride + i) → l.q2 ≡ slice_index s (start + 6 * stride + i) → l.q3 ≡ slice_index s (start + 7 * stride + i) → l ≡ line_in s (start + i) stride
loaded_column s start stride i l e0 e1 e2 e3 e4 e5 e6 e7 =
    let turned_sum : (m : ℕ) → start + m + i ≡ start + i + m = λ (m : ℕ). omega arith in
    same_line l (line_in s (start + i) stride) e0 (e1 ∙ ap (slice_index s) (turned_sum stride)) (e2 ∙ ap (slice_index s) (turned_sum (2 * stride))) (e3 ∙ ap (slice_index s) (turned_sum (3 * stride)))
    (e4 ∙ ap (slice_index s) (turned_sum (4 * stride))) (e5 ∙ ap (slice_index s) (turned_sum (5 * stride))) (e6 ∙ ap (slice_index s) (turned_sum (6 * stride))) (e7 ∙ ap (slice_index s) (turned_sum (7 * stride)))

-- a lane of a vector is a sample of a line
pub lane_of_vector : (t : Taps) (i k : ℕ) → k < 8 → slice_index (vector t k) i ≡ slice_index (samples_of (line_at t i)) k
lane_of_vector t i k less = below_eight (λ k. slice_index (vector t k) i ≡ slice_index (samples_of (line_at t i)) k) refl refl refl refl refl refl refl refl k less

-- eight rows in four vectors
pub paired_rows : (row : ℕ → List ℕ) (r0 r2 r4 r6 : List ℕ)
    → eight_from 0 r0 ≡ row 0 → eight_from 8 r0 ≡ row 1 → eight_from 0 r2 ≡ row 2 → eight_from 8 r2 ≡ row 3 → eight_from 0 r4 ≡ row 4 → eight_from 8 r4 ≡ row 5 → eight_from 0 r6 ≡ row 6 → eight_from 8 r6 ≡ row 7
    → (k : ℕ) → k < 8 → row_in_pairs (r0 ∷ r2 ∷ r4 ∷ r6 ∷ []) k ≡ row k
paired_rows row r0 r2 r4 r6 e0 e1 e2 e3 e4 e5 e6 e7 = below_eight (λ k. row_in_pairs (r0 ∷ r2 ∷ r4 ∷ r6 ∷ []) k ≡ row k) e0 e1 e2 e3 e4 e5 e6 e7

-- eight lanes of a part of a vector
pub eight_of_part : (lane : ℕ → ℕ) (first : ℕ) (part row whole : List ℕ) → ((i : ℕ) → i < 16 → slice_index part i ≡ slice_index row (lane i)) → row ≡ whole → first ≤ 8
    → eight_from first part ≡ map (λ k. slice_index whole (lane (first + k))) (0 ∷ 1 ∷ 2 ∷ 3 ∷ 4 ∷ 5 ∷ 6 ∷ 7 ∷ [])
eight_of_part lane first part row whole is same le =
    let at : (k : ℕ) → k < 8 → slice_index part (first + k) ≡ slice_index whole (lane (first + k)) = λ (k : ℕ) (less : k < 8). is (first + k) (omega arith) ∙ ap (λ l. slice_index l (lane (first + k))) same in
    rw (at 0 (omega arith), at 1 (omega arith), at 2 (omega arith), at 3 (omega arith), at 4 (omega arith), at 5 (omega arith), at 6 (omega arith), at 7 (omega arith)) refl

-- sixteen lines, eight and eight
pub both_eights : (line : ℕ → Line) (s : List ℕ) (start stride : ℕ) → ((i : ℕ) → i < 8 → line i ≡ line_in s (start + i * stride) 1) → ((i : ℕ) → i < 8 → line (8 + i) ≡ line_in s (start + 8 * stride + i * stride) 1)
    → (i : ℕ) → i < 16 → line i ≡ line_in s (start + i * stride) 1
both_eights line s start stride upper lower i less =
    elim (cases_lt i 8) [
      | inl above ↦ upper i above
      | inr from ↦
          let j = i - 8 in
          let same : 8 + j ≡ i = omega arith in
          let place : start + 8 * stride + j * stride ≡ start + (8 + j) * stride = omega arith in
          subst (λ (n : ℕ). line n ≡ line_in s (start + n * stride) 1) same (lower j (omega arith) ∙ ap (λ (p : ℕ). line_in s p 1) place)
    ]

-- eight of its lanes
pub lane_of_first : (t : Taps) (i k : ℕ) → i < 8 → k < 8 → slice_index (eight_from 0 (vector t k)) i ≡ slice_index (samples_of (line_at t i)) k
lane_of_first t i k less below = below_eight (λ i. slice_index (eight_from 0 (vector t k)) i ≡ slice_index (vector t k) i) refl refl refl refl refl refl refl refl i less ∙ lane_of_vector t i k below

pub lane_of_second : (t : Taps) (i k : ℕ) → i < 8 → k < 8 → slice_index (eight_from 8 (vector t k)) i ≡ slice_index (samples_of (line_at t (8 + i))) k
lane_of_second t i k less below = below_eight (λ i. slice_index (eight_from 8 (vector t k)) i ≡ slice_index (vector t k) (8 + i)) refl refl refl refl refl refl refl refl i less ∙ lane_of_vector t (8 + i) k below

-- two more rows of sixteen samples
pub two_more : (s : List ℕ) (start stride : ℕ) (row : ℕ → List ℕ) (n at : ℕ) (rows before new : List ℕ) → start + n * stride ≡ at → before ≡ rows_put s start stride row n
    → eight_from 0 rows ++ eight_from 16 rows ≡ row n → eight_from 8 rows ++ eight_from 24 rows ≡ row (suc n)
    → new ≡ put_chunk (at + stride) (put_chunk at before (eight_from 0 rows ++ eight_from 16 rows)) (eight_from 8 rows ++ eight_from 24 rows) → new ≡ rows_put s start stride row (suc (suc n))
unfolding rows_put
two_more s start stride row n at rows before new place is first second stored =
    let next : at + stride ≡ start + suc n * stride = omega (arith, place) in
    stored ∙ rw (first, second, is, next, ← place) refl
