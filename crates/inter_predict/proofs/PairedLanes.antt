-- Lanes of two planes.
use Rattle.std.specs.Prelude.{slice_index, nat_lt, if◌then◌else◌}
use Rattle.std.specs.List.{range_with_len}
use Rattle.std.proofs.Common.{◌≡◌, inl, inr, ℕ, Bool, true, false, ◌+◌, ◌-◌, ◌<◌, ◌≤◌, List, map, length, ◌++◌, refl, ap, sym, ◌∙◌, arith}
use lib.Lanes.{chunk, pick_l}
use Rattle.std.proofs.lemmas.Bool.{cases_lt}
use Rattle.std.proofs.lemmas.Bool.Decides.{nat_tests}
use Rattle.std.proofs.lemmas.List.{length-append, get_or_append_left, get_or-append-add}
use Rattle.std.proofs.lemmas.Simd.{length-chunk, get_or-chunk, pick_l_whole}
use Rattle.inter_predict.specs.declared.taps.Taps.{Taps}
use Rattle.inter_predict.specs.Kernels.{HasRow, IsLine, paired, tapped_from}
use Rattle.inter_predict.proofs.HeldLanes.{as_they_are}
use Rattle.inter_predict.proofs.Twice.{plain, tapped_same}

pub paired_left : (f g : ℕ → ℕ) (lane : ℕ) → lane < 8 → paired f g lane ≡ f lane
paired_left f g lane less = let yes : nat_lt lane 8 ≡ true = grind (arith, nat_tests) in rw yes refl

pub paired_right : (f g : ℕ → ℕ) (lane : ℕ) → paired f g (8 + lane) ≡ g lane
paired_right f g lane =
    let no : nat_lt (8 + lane) 8 ≡ false = grind (arith, nat_tests) in
    let rest : 8 + lane - 8 ≡ lane = omega arith in
    rw no (ap g rest)

either : (b : Bool) (x y : ℕ) → x < 256 → y < 256 → (if b then x else y) < 256
either true x y left right = left
either false x y left right = right

-- two lists of eight in one
joined : (as1 bs : List ℕ) (f g : ℕ → ℕ) (lane : ℕ) → length as1 ≡ 8 → lane < 16 → ((k : ℕ) → k < 8 → slice_index as1 k ≡ f k) → ((k : ℕ) → k < 8 → slice_index bs k ≡ g k) → slice_index (as1 ++ bs) lane ≡ paired f g lane
joined as1 bs f g lane eight less left right =
    elim (cases_lt lane 8) [
      | inl before ↦ get_or_append_left as1 bs 0 lane (omega (arith, eight)) ∙ left lane before ∙ sym (paired_left f g lane before)
      | inr from ↦
          let there : 8 + (lane - 8) ≡ lane = omega arith in
          ap (slice_index (as1 ++ bs)) (sym there)
          ∙ ap (λ (n : ℕ). slice_index (as1 ++ bs) (n + (lane - 8))) (sym eight)
          ∙ get_or-append-add as1 bs (lane - 8) 0
          ∙ right (lane - 8) (omega arith)
          ∙ sym (paired_right f g (lane - 8))
          ∙ ap (paired f g) there
    ]

-- eight samples of each plane
pub paired_line : (xs ys : List ℕ) (start : ℕ) → start + 8 ≤ length xs → start + 8 ≤ length ys → ((k : ℕ) → slice_index xs k < 256) → ((k : ℕ) → slice_index ys k < 256)
    → IsLine 16 (paired (λ lane. slice_index xs (start + lane)) (λ lane. slice_index ys (start + lane))) (map (λ (a : ℕ). a) (pick_l 0 (chunk start 8 xs ++ chunk start 8 ys) (range_with_len 0 16)))
paired_line xs ys start room room' bytes bytes' =
    let one : List ℕ = chunk start 8 xs in
    let other : List ℕ = chunk start 8 ys in
    let eight : length one ≡ 8 = length-chunk start 8 xs room in
    let eight' : length other ≡ 8 = length-chunk start 8 ys room' in
    let f : ℕ → ℕ = λ (lane : ℕ). slice_index xs (start + lane) in
    let g : ℕ → ℕ = λ (lane : ℕ). slice_index ys (start + lane) in
    let all : length (one ++ other) ≡ 16 = omega (arith, length-append one other, eight, eight') in
    let same = as_they_are (pick_l 0 (one ++ other) (range_with_len 0 16)) ∙ pick_l_whole 0 (one ++ other) 16 all in
    let value : (lane : ℕ) → lane < 16 → slice_index (map (λ (a : ℕ). a) (pick_l 0 (one ++ other) (range_with_len 0 16))) lane ≡ paired f g lane = λ lane less.
    ap (λ (l : List ℕ). slice_index l lane) same ∙ joined one other f g lane eight less (λ k inside. get_or-chunk start 8 xs k 0 inside) (λ k inside. get_or-chunk start 8 ys k 0 inside) in
    record { value = value; bytes = λ lane less. rw (value lane less) (either (nat_lt lane 8) (f lane) (g (lane - 8)) (bytes _) (bytes' _)) }

-- the samples of two lists, from a place on
abbrev pub pair_sample : List ℕ → List ℕ → ℕ → ℕ → ℕ
pair_sample xs ys place = paired (λ lane. slice_index xs (place + lane)) (λ lane. slice_index ys (place + lane))

pub one_sample : (xs ys : List ℕ) (place lane : ℕ) → lane < 8 → pair_sample xs ys place lane ≡ plain xs place lane
one_sample xs ys place lane less = paired_left (λ lane. slice_index xs (place + lane)) (λ lane. slice_index ys (place + lane)) lane less

pub other_sample : (xs ys : List ℕ) (place lane : ℕ) → pair_sample xs ys place (8 + lane) ≡ plain ys place lane
other_sample xs ys place lane = paired_right (λ lane. slice_index xs (place + lane)) (λ lane. slice_index ys (place + lane)) lane

pub one_from : (t : Taps) (xs ys : List ℕ) (lane at : ℕ) → lane < 8 → tapped_from t (pair_sample xs ys) lane at ≡ tapped_from t (plain xs) lane at
one_from t xs ys lane at less = tapped_same t _ _ (λ k six. one_sample xs ys (at + k) lane less)

pub other_from : (t : Taps) (xs ys : List ℕ) (lane at : ℕ) → tapped_from t (pair_sample xs ys) (8 + lane) at ≡ tapped_from t (plain ys) lane at
other_from t xs ys lane at = tapped_same t _ _ (λ k six. other_sample xs ys (at + k) lane)

-- rows of both planes
pub both_rows : (p q : ℕ → Type 0) (stride start number : ℕ) → HasRow p stride start number → HasRow q stride start number → HasRow (λ place. p place × q place) stride start number
both_rows p q stride start number one other = (one.0, λ place from upto. (one.1 place from upto, other.1 place from upto))
