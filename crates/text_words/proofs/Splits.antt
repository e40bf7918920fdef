-- The first part of a text, and its first word.
use Rattle.std.proofs.Common.{◌≡◌, ℕ, ◌+◌, ◌<◌, ◌≤◌, suc, Bool, true, false, cond, not, ◌==◌, List, [], ◌∷◌, length, take, drop, refl, sym, ap, ◌∙◌, arith, length-drop, get_or}
use Rattle.std.proofs.lemmas.Bool.Decides.{nat_tests}
use Rattle.std.proofs.lemmas.List.{drop_all}
use Rattle.std.proofs.lemmas.List.Sums.{prefix_len_stops, prefix_len-drop_no}
use Rattle.std.specs.Prelude.{filter}
use Rattle.std.specs.List.{slice_split, position_or_len, prefix_len, before_first}
use Rattle.text_words.specs.Words.{words_of}

pub not_zero : (n : ℕ) → 0 < n → (n == 0) ≡ false
not_zero n h = grind (arith, nat_tests)

one_more : (n : ℕ) → 1 + n ≡ suc n
one_more n = omega arith

-- if no element passes, the list is the only part
pub split_whole : (p : ℕ → Bool) (xs : List ℕ) → length xs ≤ position_or_len p xs → slice_split p xs ≡ xs ∷ []
split_whole p [] h = refl
split_whole p (x ∷ xs) h = by_first (p x) refl (split_whole p xs)
  where
    by_first : (b : Bool) → p x ≡ b → (length xs ≤ position_or_len p xs → slice_split p xs ≡ xs ∷ []) → slice_split p (x ∷ xs) ≡ (x ∷ xs) ∷ []
    by_first true e ih = let h' = rw e at h in absurd (omega arith)
    by_first false e ih = let h' = rw e at h in rw (e, ih (omega arith)) refl

-- leading spaces are not words
pub words_of-spaces : (text : List ℕ) → words_of (drop (prefix_len (λ b. b == 32) text) text) ≡ words_of text
words_of-spaces [] = refl
words_of-spaces (x ∷ xs) = by_first (x == 32) refl (words_of-spaces xs)
  where
    by_first : (b : Bool) → (x == 32) ≡ b → words_of (drop (prefix_len (λ b. b == 32) xs) xs) ≡ words_of xs → words_of (drop (prefix_len (λ b. b == 32) (x ∷ xs)) (x ∷ xs)) ≡ words_of (x ∷ xs)
    by_first true e ih = rw (e, one_more) ih
    by_first false e ih =
        let none : prefix_len (λ b. b == 32) (x ∷ xs) ≡ 0 = rw e refl in
        ap (λ n. words_of (drop n (x ∷ xs))) none

-- the parts of a text: the text before the first space, and then parts with the words after it
pub record Parts (text : List ℕ) : Type 0 where
  pub more : List (List ℕ)
  pub split : slice_split (λ b. b == 32) text ≡ before_first (λ b. b == 32) text ∷ more
  pub words : words_of (drop (position_or_len (λ b. b == 32) text) text) ≡ filter (λ word. not (length word == 0)) more

parts_of : (text : List ℕ) → Parts text
parts_of [] = record { more = []; split = refl; words = refl }
parts_of (x ∷ xs) = by_first (x == 32) refl (parts_of xs)
  where
    by_first : (b : Bool) → (x == 32) ≡ b → Parts xs → Parts (x ∷ xs)
    by_first true e ih =
        let none : position_or_len (λ b. b == 32) (x ∷ xs) ≡ 0 = rw e refl in
        let same : words_of (x ∷ xs) ≡ words_of xs = rw e refl in
        record {
          more = slice_split (λ b. b == 32) xs;
          split = rw e refl;
          words = ap (λ n. words_of (drop n (x ∷ xs))) none ∙ same;
        }
    by_first false e ih = record { more = ih.more; split = rw (e, ih.split, one_more) refl; words = rw (e, one_more) ih.words }

-- a text that begins with no space begins with a word
pub words_of-first : (text : List ℕ) → 0 < length text → prefix_len (λ b. b == 32) text ≡ 0 → words_of text ≡ before_first (λ b. b == 32) text ∷ words_of (drop (position_or_len (λ b. b == 32) text) text)
words_of-first [] h k = absurd (omega arith)
words_of-first (x ∷ xs) h k = by_first (x == 32) refl
  where
    by_first : (b : Bool) → (x == 32) ≡ b → words_of (x ∷ xs) ≡ before_first (λ b. b == 32) (x ∷ xs) ∷ words_of (drop (position_or_len (λ b. b == 32) (x ∷ xs)) (x ∷ xs))
    by_first true e = let k' = rw e at k in absurd (omega arith)
    by_first false e =
        let parts : Parts (x ∷ xs) = parts_of (x ∷ xs) in
        let front : before_first (λ b. b == 32) (x ∷ xs) ≡ x ∷ before_first (λ b. b == 32) xs = rw (e, one_more) refl in
        let some : (length (before_first (λ b. b == 32) (x ∷ xs)) == 0) ≡ false = not_zero _ (omega (arith, ap length front)) in
        let word : List ℕ = before_first (λ b. b == 32) (x ∷ xs) in
        let following : List (List ℕ) = filter (λ part. not (length part == 0)) parts.more in
        ap (filter (λ part. not (length part == 0))) parts.split
        ∙ ap (λ none. cond (not none) (word ∷ following) following) some
        ∙ ap (λ words. word ∷ words) (sym parts.words)

-- a first word is not an empty part
first_some : (text : List ℕ) → 0 < length text → prefix_len (λ b. b == 32) text ≡ 0 → 0 < position_or_len (λ b. b == 32) text
first_some [] h k = absurd (omega arith)
first_some (x ∷ xs) h k = by_first (x == 32) refl
  where
    by_first : (b : Bool) → (x == 32) ≡ b → 0 < position_or_len (λ b. b == 32) (x ∷ xs)
    by_first true e = let k' = rw e at k in absurd (omega arith)
    by_first false e = rw e (omega arith)

-- the text after the spaces begins with none
no_space_after : (text words : List ℕ) (n : ℕ) → n ≡ prefix_len (λ b. b == 32) text → words ≡ drop n text → n < length text → prefix_len (λ b. b == 32) words ≡ 0
no_space_after text words n spaces following within =
    let stops : get_or text n 0 == 32 ≡ false = ap (λ k. get_or text k 0 == 32) spaces ∙ prefix_len_stops (λ b. b == 32) text 0 (omega (arith, spaces, within)) in
    ap (prefix_len (λ b. b == 32)) following ∙ prefix_len-drop_no (λ b. b == 32) text n 0 within stops

-- the first word, as the code cuts it off
pub cut_word : (text words word rest : List ℕ) (n m : ℕ) → n ≡ prefix_len (λ b. b == 32) text → words ≡ drop n text → 0 < length words → m ≡ position_or_len (λ b. b == 32) words → word ≡ take m words → rest ≡ drop m words → (words_of text ≡ word ∷ words_of rest) × (length rest < length text)
cut_word text words word rest n m spaces following some at front back =
    let within : n < length text = omega (arith, ap length following, length-drop n text) in
    let begins : prefix_len (λ b. b == 32) words ≡ 0 = no_space_after text words n spaces following within in
    let same : words_of text ≡ words_of words = sym (words_of-spaces text) ∙ ap (λ k. words_of (drop k text)) (sym spaces) ∙ ap words_of (sym following) in
    let word_is : before_first (λ b. b == 32) words ≡ word = ap (λ k. take k words) (sym at) ∙ sym front in
    let rest_is : drop (position_or_len (λ b. b == 32) words) words ≡ rest = ap (λ k. drop k words) (sym at) ∙ sym back in
    let first : words_of words ≡ word ∷ words_of rest = words_of-first words some begins ∙ (rw (word_is, rest_is) refl) in
    (same ∙ first, omega (arith, at, first_some words some begins, ap length back, length-drop m words, ap length following, length-drop n text))

-- a text of spaces
pub cut_none : (text words : List ℕ) (n : ℕ) → n ≡ prefix_len (λ b. b == 32) text → words ≡ drop n text → length words ≡ 0 → words_of text ≡ []
cut_none text words n spaces following none =
    let all : length text ≤ n = omega (arith, ap length following, length-drop n text) in
    sym (words_of-spaces text) ∙ ap (λ k. words_of (drop k text)) (sym spaces) ∙ ap words_of (drop_all n text all)
