-- An edge that is filtered line by line, written row by row.
use Rattle.std.specs.Prelude.{slice_index}
use Rattle.std.specs.Simd.Lanes.{put_chunk}
use Rattle.std.proofs.Common.{◌≡◌, ◌⊎◌, inl, inr, ℕ, zero, suc, ◌+◌, ◌*◌, ◌<◌, ◌≤◌, List, [], ◌∷◌, length, take, set, get_or, refl, ap, sym, ◌∙◌, arith}
use Rattle.std.proofs.lemmas.Bool.{cases_lt}
use Rattle.std.proofs.lemmas.List.{length-take, take_all}
use Rattle.loop_filter.specs.Lines.{Line}
use Rattle.loop_filter.specs.Edges.{line_in, with_line, lines_filtered}
use Rattle.loop_filter.specs.Lanes.{rows_put}
use Rattle.loop_filter.proofs.RowsPut.{put_next, put_last, line_sets, same_sets, same_rows, no_rows, rows_put_other, earlier_row, one_more}

-- the samples of a line in order
abbrev pub samples_of : Line → List ℕ
samples_of l = l.p3 ∷ l.p2 ∷ l.p1 ∷ l.p0 ∷ l.q0 ∷ l.q1 ∷ l.q2 ∷ l.q3 ∷ []

-- lines with the same samples
pub same_line : (a b : Line) → a.p3 ≡ b.p3 → a.p2 ≡ b.p2 → a.p1 ≡ b.p1 → a.p0 ≡ b.p0 → a.q0 ≡ b.q0 → a.q1 ≡ b.q1 → a.q2 ≡ b.q2 → a.q3 ≡ b.q3 → a ≡ b
same_line a b e0 e1 e2 e3 e4 e5 e6 e7 =
    let left : a ≡ record { p3 = a.p3; p2 = a.p2; p1 = a.p1; p0 = a.p0; q0 = a.q0; q1 = a.q1; q2 = a.q2; q3 = a.q3 } = refl in
    left ∙ rw (e0, e1, e2, e3, e4, e5, e6, e7) refl

-- a line whose samples are the same in both lists
pub same_line_in : (s r : List ℕ) (at across : ℕ) → ((k : ℕ) → k < 8 → slice_index r (at + k * across) ≡ slice_index s (at + k * across)) → line_in r at across ≡ line_in s at across
same_line_in s r at across same =
    let none : at + 0 * across ≡ at = omega arith in
    let one : at + 1 * across ≡ at + across = omega arith in
    same_line _ _ (rw (← none) (same 0 (omega arith))) (rw (← one) (same 1 (omega arith))) (same 2 (omega arith)) (same 3 (omega arith)) (same 4 (omega arith)) (same 5 (omega arith)) (same 6 (omega arith)) (same 7 (omega arith))

-- a line that is written, sample by sample
pub line_is_sets : (s : List ℕ) (at across : ℕ) (l : Line) → with_line s at across l ≡ line_sets s at across (λ k. slice_index (samples_of l) k) 8
unfolding with_line line_sets
line_is_sets s at across l =
    let none : at ≡ at + 0 * across = omega arith in
    let one : at + across ≡ at + 1 * across = omega arith in
    let six : List ℕ → List ℕ = λ (x : List ℕ). set (set (set (set (set (set x (at + 2 * across) l.p1) (at + 3 * across) l.p0) (at + 4 * across) l.q0) (at + 5 * across) l.q1) (at + 6 * across) l.q2) (at + 7 * across) l.q3 in
    ap (λ (p : ℕ). six (set (set s p l.p3) (at + across) l.p2)) none ∙ ap (λ (p : ℕ). six (set (set s (at + 0 * across) l.p3) p l.p2)) one

-- a line of adjacent samples, written at a time
pub line_is_put : (s : List ℕ) (at : ℕ) (l : Line) → put_chunk at s (samples_of l) ≡ with_line s at 1 l
unfolding with_line
line_is_put s at l =
    let s1 = set s at l.p3 in
    let s2 = set s1 (at + 1) l.p2 in
    let s3 = set s2 (at + 2) l.p1 in
    let s4 = set s3 (at + 3) l.p0 in
    let s5 = set s4 (at + 4) l.q0 in
    let s6 = set s5 (at + 5) l.q1 in
    let s7 = set s6 (at + 6) l.q2 in
    put_next at (at + 1) s l.p3 _ (omega arith) ∙ put_next (at + 1) (at + 2) s1 l.p2 _ (omega arith) ∙ put_next (at + 2) (at + 3) s2 l.p1 _ (omega arith) ∙ put_next (at + 3) (at + 4) s3 l.p0 _ (omega arith)
    ∙ put_next (at + 4) (at + 5) s4 l.q0 _ (omega arith) ∙ put_next (at + 5) (at + 6) s5 l.q1 _ (omega arith) ∙ put_next (at + 6) (at + 7) s6 l.q2 _ (omega arith) ∙ put_last (at + 7) s7 l.q3

-- an edge between columns: each line is a row
columns_fold : (f : Line → Line) (s : List ℕ) (start stride : ℕ) (row : ℕ → List ℕ) (n : ℕ) → 8 ≤ stride → ((i : ℕ) → i < n → row i ≡ samples_of (f (line_in s (start + i * stride) 1))) → rows_put s start stride row n ≡ lines_filtered f start stride 1 s n
unfolding rows_put lines_filtered
columns_fold f s start stride row zero wide is = refl
columns_fold f s start stride row (suc n) wide is =
    let before : List ℕ = rows_put s start stride row n in
    let at = start + n * stride in
    let same : line_in before at 1 ≡ line_in s at 1 =
    same_line_in s before at 1 (λ k less. rows_put_other s start stride row n (at + k * 1) (λ j below. let e = earlier_row stride j n below in let long : length (row j) ≡ 8 = ap length (is j (omega arith)) in inr (omega (arith, e, long)))) in
    ap (put_chunk at before) (is n (omega arith)) ∙ line_is_put before at (f (line_in s at 1)) ∙ ap (λ (l : Line). with_line before at 1 (f l)) (sym same)
    ∙ ap (λ (b : List ℕ). with_line b at 1 (f (line_in b at 1))) (columns_fold f s start stride row n wide (λ i less. is i (omega arith)))

pub columns_edge : (f : Line → Line) (s : List ℕ) (start stride count : ℕ) (row : ℕ → List ℕ) → 8 ≤ stride → ((i : ℕ) → i < count → row i ≡ samples_of (f (line_in s (start + i * stride) 1))) → rows_put s start stride row count ≡ lines_filtered f start stride 1 s count
columns_edge f s start stride count row wide is = columns_fold f s start stride row count wide is

-- a sample of a later column is outside the written part of each row
later_column : (start stride n j k : ℕ) (written : List ℕ) → n < stride → length written ≤ n → (start + n + j * stride < start + k * stride) ⊎ (start + k * stride + length written ≤ start + n + j * stride)
later_column start stride n j k written less short =
    elim (cases_lt j k) [
      | inl earlier ↦ let e = earlier_row stride j k earlier in inl (omega (arith, e))
      | inr from ↦ elim (cases_lt k j) [
        | inl later ↦ let e = earlier_row stride k j later in inr (omega (arith, e))
        | inr upto ↦ let same : j ≡ k = omega arith in rw same (inr (omega arith))
      ]
    ]

-- an edge between rows: each line is a column
rows_fold : (f : Line → Line) (s : List ℕ) (start stride count : ℕ) (row : ℕ → List ℕ) (n : ℕ) → count ≤ stride → n ≤ count → ((k : ℕ) → k < 8 → length (row k) ≡ count)
    → ((i k : ℕ) → i < count → k < 8 → slice_index (row k) i ≡ slice_index (samples_of (f (line_in s (start + i) stride))) k)
    → rows_put s start stride (λ k. take n (row k)) 8 ≡ lines_filtered f start 1 stride s n
unfolding lines_filtered
rows_fold f s start stride count row zero wide upto long is = no_rows s start stride 8
rows_fold f s start stride count row (suc n) wide upto long is =
    let before : List ℕ = rows_put s start stride (λ k. take n (row k)) 8 in
    let at = start + n in
    let place : start + n ≡ start + n * 1 = omega arith in
    let same : line_in before at stride ≡ line_in s at stride =
    same_line_in s before at stride (λ j less. rows_put_other s start stride (λ k. take n (row k)) 8 (at + j * stride) (λ k below. later_column start stride n j k (take n (row k)) (omega arith) (let e = length-take n (row k) in omega (arith, e)))) in
    one_more s start stride row n 8 (omega arith) (λ k less. let e = long k less in omega (arith, e))
    ∙ same_sets before at stride (λ k. get_or (row k) n 0) (λ k. slice_index (samples_of (f (line_in s at stride))) k) 8 (λ k less. is n k (omega arith) less)
    ∙ sym (line_is_sets before at stride (f (line_in s at stride)))
    ∙ ap (λ (l : Line). with_line before at stride (f l)) (sym same)
    ∙ ap (λ (b : List ℕ). with_line b at stride (f (line_in b at stride))) (rows_fold f s start stride count row n wide (omega arith) long is)
    ∙ ap (λ (p : ℕ). with_line (lines_filtered f start 1 stride s n) p stride (f (line_in (lines_filtered f start 1 stride s n) p stride))) place

pub rows_edge : (f : Line → Line) (s : List ℕ) (start stride count : ℕ) (row : ℕ → List ℕ) → count ≤ stride → ((k : ℕ) → k < 8 → length (row k) ≡ count)
    → ((i k : ℕ) → i < count → k < 8 → slice_index (row k) i ≡ slice_index (samples_of (f (line_in s (start + i) stride))) k)
    → rows_put s start stride row 8 ≡ lines_filtered f start 1 stride s count
rows_edge f s start stride count row wide long is =
    same_rows s start stride row (λ k. take count (row k)) 8 (λ k less. sym (let e = long k less in take_all count (row k) (omega (arith, e)))) ∙ rows_fold f s start stride count row count wide (omega arith) long is
