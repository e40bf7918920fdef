-- A text that is cut into parts.
use Rattle.std.proofs.Common.{◌≡◌, ℕ, ◌+◌, ◌-◌, ◌<◌, ◌≤◌, Bool, List, [], ◌∷◌, length, take, drop, refl, sym, ap, ◌∙◌, arith, length-drop}
use Rattle.std.proofs.lemmas.List.{take_all, drop-drop}
use Rattle.std.proofs.lemmas.List.Splits.{slice_split_first}
use Rattle.std.specs.List.{slice_split, position_or_len, before_first, after_first}
use Rattle.text_words.proofs.Splits.{split_whole}

-- the last part, as the code cuts it off
pub cut_last : (p : ℕ → Bool) (text part following : List ℕ) (n : ℕ) → n ≡ position_or_len p text → part ≡ take n text → following ≡ drop n text → length following < 1 → slice_split p text ≡ part ∷ []
cut_last p text part following n at front back none =
    let all : length text ≤ n = omega (arith, ap length back, length-drop n text) in
    let whole : part ≡ text = front ∙ take_all n text all in
    split_whole p text (omega (arith, all, at)) ∙ ap (λ l. l ∷ []) (sym whole)

-- a part before another, as the code cuts it off
pub cut_first : (p : ℕ → Bool) (text part following : List ℕ) (n : ℕ) → n ≡ position_or_len p text → part ≡ take n text → following ≡ drop n text → 1 ≤ length following → slice_split p text ≡ part ∷ slice_split p (take (length following - 1) (drop 1 following))
cut_first p text part following n at front back some =
    let more : n < length text = omega (arith, ap length back, length-drop n text) in
    let place : position_or_len p text ≡ n = sym at in
    let part_is : before_first p text ≡ part = ap (λ k. take k text) place ∙ sym front in
    let all : take (length following - 1) (drop 1 following) ≡ drop 1 following = take_all (length following - 1) (drop 1 following) (omega (arith, length-drop 1 following)) in
    let rest_is : after_first p text ≡ drop 1 following = ap (λ k. drop (k + 1) text) place ∙ sym (drop-drop 1 n text) ∙ ap (drop 1) (sym back) in
    slice_split_first p text 0 (omega (arith, more, at)) ∙ rw (part_is, rest_is, all) refl
