-- An edge changes its own lines, and nothing else.
use Rattle.std.specs.Prelude.{slice_index}
use Rattle.std.proofs.Common.{◌≡◌, ◌≢◌, inl, inr, ℕ, zero, suc, ◌+◌, ◌*◌, ◌<◌, ◌≤◌, List, length, refl, sym, ap, ◌∙◌, arith}
use Rattle.std.proofs.Math.Nat.{mul-le-mul_right}
use Rattle.std.proofs.lemmas.Bool.{cases_lt}
use Rattle.std.proofs.lemmas.List.{length-set, get_or-set_same, get_or-set_other}
use Rattle.loop_filter.specs.Lines.{Line}
use Rattle.loop_filter.specs.Edges.{line_in, with_line, lines_filtered}
use Rattle.loop_filter.specs.Laws.{ChangesItsLines}
use Rattle.loop_filter.proofs.RowsPut.{line_sets, earlier_row}
use Rattle.loop_filter.proofs.EdgeFold.{samples_of, same_line, same_line_in, line_is_sets}

-- samples that are set
pub sets-length : (s : List ℕ) (at across : ℕ) (v : ℕ → ℕ) (m : ℕ) → length (line_sets s at across v m) ≡ length s
unfolding line_sets
sets-length s at across v zero = refl
sets-length s at across v (suc m) = length-set (line_sets s at across v m) (at + m * across) (v m) ∙ sets-length s at across v m

sets-other : (s : List ℕ) (at across : ℕ) (v : ℕ → ℕ) (m place : ℕ) → ((k : ℕ) → k < m → place ≢ at + k * across) → slice_index (line_sets s at across v m) place ≡ slice_index s place
unfolding line_sets
sets-other s at across v zero place other = refl
sets-other s at across v (suc m) place other =
    get_or-set_other (line_sets s at across v m) (at + m * across) place (v m) 0 (other m (omega arith)) ∙ sets-other s at across v m place (λ k less. other k (omega arith))

-- the indices of one line are distinct
apart : (at across k m : ℕ) → 1 ≤ across → k < m → at + k * across < at + m * across
apart at across k m some less = let e = earlier_row across k m less in omega (arith, e)

sets-own : (s : List ℕ) (at across : ℕ) (v : ℕ → ℕ) (m k : ℕ) → 1 ≤ across → k < m → at + k * across < length s → slice_index (line_sets s at across v m) (at + k * across) ≡ v k
unfolding line_sets
sets-own s at across v zero k some less inside = absurd (omega arith)
sets-own s at across v (suc m) k some less inside =
    elim (cases_lt k m) [
      | inl earlier ↦ (let e : at + k * across < at + m * across = apart at across k m some earlier in
          get_or-set_other (line_sets s at across v m) (at + m * across) (at + k * across) (v m) 0 (λ same. omega arith) ∙ sets-own s at across v m k some earlier inside)
      | inr upto ↦ (let last : k ≡ m = omega arith in
          let long : length (line_sets s at across v m) ≡ length s = sets-length s at across v m in
          let fits : at + k * across < length (line_sets s at across v m) = omega (arith, long) in
          let here : at + m * across < length (line_sets s at across v m) = rw last at fits in
          rw last (get_or-set_same (line_sets s at across v m) (at + m * across) (v m) 0 here))
    ]

-- a line that is written
put-length : (s : List ℕ) (at across : ℕ) (l : Line) → length (with_line s at across l) ≡ length s
put-length s at across l = ap (λ x. length x) (line_is_sets s at across l) ∙ sets-length s at across (λ k. slice_index (samples_of l) k) 8

put-other : (s : List ℕ) (at across : ℕ) (l : Line) (place : ℕ) → ((k : ℕ) → k < 8 → place ≢ at + k * across) → slice_index (with_line s at across l) place ≡ slice_index s place
put-other s at across l place other = ap (λ x. slice_index x place) (line_is_sets s at across l) ∙ sets-other s at across (λ k. slice_index (samples_of l) k) 8 place other

put-sample : (s : List ℕ) (at across : ℕ) (l : Line) (k : ℕ) → 1 ≤ across → at + 7 * across < length s → k < 8 → slice_index (with_line s at across l) (at + k * across) ≡ slice_index (samples_of l) k
put-sample s at across l k some inside less =
    let upto : k * across ≤ 7 * across = mul-le-mul_right across (omega arith) in
    ap (λ x. slice_index x (at + k * across)) (line_is_sets s at across l) ∙ sets-own s at across (λ k. slice_index (samples_of l) k) 8 k some less (omega (arith, upto))

put-own : (s : List ℕ) (at across : ℕ) (l : Line) → 1 ≤ across → at + 7 * across < length s → line_in (with_line s at across l) at across ≡ l
put-own s at across l some inside =
    let none : at ≡ at + 0 * across = omega arith in
    let one : at + across ≡ at + 1 * across = omega arith in
    let sample : ℕ → ℕ = λ (place : ℕ). slice_index (with_line s at across l) place in
    same_line _ _ (ap sample none ∙ put-sample s at across l 0 some inside (omega arith)) (ap sample one ∙ put-sample s at across l 1 some inside (omega arith)) (put-sample s at across l 2 some inside (omega arith)) (put-sample s at across l 3 some inside (omega arith))
    (put-sample s at across l 4 some inside (omega arith)) (put-sample s at across l 5 some inside (omega arith)) (put-sample s at across l 6 some inside (omega arith)) (put-sample s at across l 7 some inside (omega arith))

-- no line of an edge overlaps another
abbrev pub AreApart : ℕ → ℕ → ℕ → ℕ → Type 0
AreApart n start between across = (i j k l : ℕ) → i < j → j < n → k < 8 → l < 8 → start + i * between + k * across ≢ start + j * between + l * across

pub edge-length : (f : Line → Line) (start between across : ℕ) (s : List ℕ) (n : ℕ) → length (lines_filtered f start between across s n) ≡ length s
unfolding lines_filtered
edge-length f start between across s zero = refl
edge-length f start between across s (suc n) =
    let before : List ℕ = lines_filtered f start between across s n in
    put-length before (start + n * between) across (f (line_in before (start + n * between) across)) ∙ edge-length f start between across s n

edge-other : (f : Line → Line) (start between across : ℕ) (s : List ℕ) (n place : ℕ) → ((i k : ℕ) → i < n → k < 8 → place ≢ start + i * between + k * across) → slice_index (lines_filtered f start between across s n) place ≡ slice_index s place
unfolding lines_filtered
edge-other f start between across s zero place other = refl
edge-other f start between across s (suc n) place other =
    let before : List ℕ = lines_filtered f start between across s n in
    put-other before (start + n * between) across (f (line_in before (start + n * between) across)) place (λ k less. other n k (omega arith) less)
    ∙ edge-other f start between across s n place (λ i k below less. other i k (omega arith) less)

edge-own : (f : Line → Line) (start between across : ℕ) (s : List ℕ) (n i : ℕ) → 1 ≤ across → AreApart n start between across → i < n → start + i * between + 7 * across < length s
    → line_in (lines_filtered f start between across s n) (start + i * between) across ≡ f (line_in s (start + i * between) across)
unfolding lines_filtered
edge-own f start between across s zero i some are below inside = absurd (omega arith)
edge-own f start between across s (suc n) i some are below inside =
    let before : List ℕ = lines_filtered f start between across s n in
    let at : ℕ = start + n * between in
    let here : Line = f (line_in before at across) in
    elim (cases_lt i n) [
      | inl earlier ↦ (
          same_line_in before (with_line before at across here) (start + i * between) across (λ k less. put-other before at across here (start + i * between + k * across) (λ l less'. are i n k l earlier (omega arith) less less'))
          ∙ edge-own f start between across s n i some (λ i j k l before below. are i j k l before (omega arith)) earlier inside)
      | inr upto ↦ (
          let last : i ≡ n = omega arith in
          let long : length before ≡ length s = edge-length f start between across s n in
          let fits : at + 7 * across < length s = rw last at inside in
          let same : line_in before at across ≡ line_in s at across = same_line_in s before at across (λ k less. edge-other f start between across s n (at + k * across) (λ j l earlier less'. λ e. are j n l k earlier (omega arith) less' less (sym e))) in
          rw last (put-own before at across here some (omega (arith, long)) ∙ ap f same))
    ]

pub own-lines : (f : Line → Line) (start between across n : ℕ) (s : List ℕ) → 1 ≤ across → AreApart n start between across → ChangesItsLines f n start between across s (lines_filtered f start between across s n)
own-lines f start between across n s some are = record {
  whole = edge-length f start between across s n;
  lines = λ i below inside. edge-own f start between across s n i some are below inside;
  others = λ place other. edge-other f start between across s n place other;
}

-- the lines of an edge between columns are rows, and those of one between rows are columns
pub rows-apart : (n start stride : ℕ) → 8 ≤ stride → AreApart n start stride 1
rows-apart n start stride wide i j k l earlier below less less' same = let e = earlier_row stride i j earlier in omega (arith, e)

pub columns-apart : (n start stride : ℕ) → n ≤ stride → AreApart n start 1 stride
columns-apart n start stride wide i j k l earlier below less less' same =
    elim (cases_lt k l) [
      | inl before ↦ (let e = earlier_row stride k l before in omega (arith, e))
      | inr from ↦ elim (cases_lt l k) [
        | inl following ↦ (let e = earlier_row stride l k following in omega (arith, e))
        | inr upto ↦ (let is : k ≡ l = omega arith in let rows : k * stride ≡ l * stride = ap (λ (n : ℕ). n * stride) is in omega (arith, rows))
      ]
    ]
