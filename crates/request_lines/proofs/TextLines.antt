-- The first line of a text, as the code cuts it off.
use Rattle.std.proofs.Common.{◌≡◌, ℕ, ◌+◌, ◌<◌, ◌≤◌, ◌-◌, Bool, true, false, cond, ◌==◌, List, [], ◌∷◌, length, take, drop, refl, sym, ap, ◌∙◌, arith, length-drop}
use Rattle.std.proofs.lemmas.List.{take_all, drop_all, drop-drop}
use Rattle.std.proofs.lemmas.List.Splits.{slice_split_first}
use Rattle.std.specs.List.{slice_split, onto_first, position_or_len, before_first, after_first}
use Rattle.std.specs.Str.Lines.{lines, lines_of_parts, strip_carriage_return}
use Rattle.text_words.proofs.Splits.{not_zero, split_whole}

-- a part that another follows is a line
parts_first : (part : List ℕ) (p : ℕ → Bool) (xs : List ℕ) → lines_of_parts (part ∷ slice_split p xs) ≡ strip_carriage_return part ∷ lines_of_parts (slice_split p xs)
parts_first part p [] = refl
parts_first part p (x ∷ xs) = by_first (p x) refl
  where
    by_parts : (parts : List (List ℕ)) → lines_of_parts (part ∷ onto_first x parts) ≡ strip_carriage_return part ∷ lines_of_parts (onto_first x parts)
    by_parts [] = refl
    by_parts (y ∷ ys) = refl

    by_first : (b : Bool) → p x ≡ b → lines_of_parts (part ∷ slice_split p (x ∷ xs)) ≡ strip_carriage_return part ∷ lines_of_parts (slice_split p (x ∷ xs))
    by_first true e = rw e refl
    by_first false e = rw e (by_parts (slice_split p xs))

-- a newline ends the first line
pub lines-first : (text : List ℕ) → position_or_len (λ b. b == 10) text < length text → lines text ≡ strip_carriage_return (before_first (λ b. b == 10) text) ∷ lines (after_first (λ b. b == 10) text)
lines-first text h =
    ap lines_of_parts (slice_split_first (λ b. b == 10) text 0 h)
    ∙ parts_first (before_first (λ b. b == 10) text) (λ b. b == 10) (after_first (λ b. b == 10) text)

-- a text without a newline is one line
pub lines-last : (text : List ℕ) → 0 < length text → length text ≤ position_or_len (λ b. b == 10) text → lines text ≡ text ∷ []
lines-last [] h k = absurd (omega arith)
lines-last (x ∷ xs) h k = ap lines_of_parts (split_whole (λ b. b == 10) (x ∷ xs) k) ∙ ap (λ none. cond none [] ((x ∷ xs) ∷ [])) (not_zero (length (x ∷ xs)) h)

-- the last line, as the code cuts it off
pub cut_last : (text line following : List ℕ) (n : ℕ) → 0 < length text → n ≡ position_or_len (λ b. b == 10) text → line ≡ take n text → following ≡ drop n text → length following < 1 → lines text ≡ line ∷ lines following
cut_last text line following n some at front back none =
    let all : length text ≤ n = omega (arith, ap length back, length-drop n text) in
    let whole : line ≡ text = front ∙ take_all n text all in
    let empty : following ≡ [] = back ∙ drop_all n text all in
    lines-last text some (omega (arith, all, at)) ∙ (rw (whole, empty) refl)

-- a line before a newline, as the code cuts it off
pub cut_first : (text line following kept : List ℕ) (n : ℕ) → n ≡ position_or_len (λ b. b == 10) text → line ≡ take n text → following ≡ drop n text → 1 ≤ length following → kept ≡ strip_carriage_return line → lines text ≡ kept ∷ lines (take (length following - 1) (drop 1 following))
cut_first text line following kept n at front back some strip =
    let more : n < length text = omega (arith, ap length back, length-drop n text) in
    let place : position_or_len (λ b. b == 10) text ≡ n = sym at in
    let kept_is : strip_carriage_return (before_first (λ b. b == 10) text) ≡ kept = ap (λ k. strip_carriage_return (take k text)) place ∙ ap strip_carriage_return (sym front) ∙ sym strip in
    let all : take (length following - 1) (drop 1 following) ≡ drop 1 following = take_all (length following - 1) (drop 1 following) (omega (arith, length-drop 1 following)) in
    let rest_is : after_first (λ b. b == 10) text ≡ drop 1 following = ap (λ k. drop (k + 1) text) place ∙ sym (drop-drop 1 n text) ∙ ap (drop 1) (sym back) in
    lines-first text (omega (arith, more, at)) ∙ rw (kept_is, rest_is, all) refl
