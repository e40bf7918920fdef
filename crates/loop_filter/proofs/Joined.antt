-- Two vectors of sixteen lanes in one of thirty-two.
use Rattle.std.specs.Prelude.{slice_index}
use Rattle.std.specs.List.{range_with_len}
use Rattle.std.proofs.Common.{◌≡◌, ℕ, ◌+◌, ◌-◌, ◌<◌, ◌≤◌, List, ◌++◌, length, get_or, ap, ◌∙◌, arith}
use lib.Dec.{T}
use lib.Lanes.{all_below, pick_l}
use Rattle.std.proofs.lemmas.List.{length-append, get_or_append_left, get_or-append_right}
use Rattle.std.proofs.lemmas.Simd.{pick_l_left, pick_l_whole, pick_l-range_with_len, get_or-chunk}

whole : (a b : List ℕ) → length a ≡ 16 → length b ≡ 16 → pick_l 0 (a ++ b) (range_with_len 0 32) ≡ a ++ b
whole a b long long' = pick_l_whole 0 (a ++ b) 32 (length-append a b ∙ omega (arith, long, long'))

pub first_of_two : (a b : List ℕ) (i : ℕ) → length a ≡ 16 → length b ≡ 16 → i < 16 → slice_index (pick_l 0 (a ++ b) (range_with_len 0 32)) i ≡ slice_index a i
first_of_two a b i long long' less = ap (λ l. slice_index l i) (whole a b long long') ∙ get_or_append_left a b 0 i (omega (arith, long))

pub second_of_two : (a b : List ℕ) (i : ℕ) → length a ≡ 16 → length b ≡ 16 → slice_index (pick_l 0 (a ++ b) (range_with_len 0 32)) (16 + i) ≡ slice_index b i
second_of_two a b i long long' =
    let same : 16 + i - 16 ≡ i = omega arith in
    ap (λ l. slice_index l (16 + i)) (whole a b long long') ∙ get_or-append_right a b 16 (16 + i) 0 long (omega arith) ∙ ap (λ (n : ℕ). get_or b n 0) same

-- sixteen lanes of them, starting at one
pub lanes_from : (from : ℕ) (row : List ℕ) (i : ℕ) → length row ≡ 32 → T (all_below 32 (range_with_len from 16)) → from + 16 ≤ 32 → i < 16 → slice_index (pick_l 0 (row ++ row) (range_with_len from 16)) i ≡ slice_index row (from + i)
lanes_from from row i long below room less =
    ap (λ l. slice_index l i) (pick_l_left 0 row row 32 (range_with_len from 16) long below ∙ pick_l-range_with_len 0 row from 16 (omega (arith, long))) ∙ get_or-chunk from 16 row i 0 less
