-- The lines of a text that is read line by line.
use Rattle.std.proofs.Common.{◌≡◌, ℕ, ◌+◌, ◌-◌, ◌<◌, ◌≤◌, ◌==◌, Bool, true, false, cond, All, List, [], ◌∷◌, ◌++◌, map, length, take, get_or, append_assoc, append-nil, length-append, length-take-le, ne_eqb, eq-eqb, refl, sym, ap, ◌∙◌, subst, arith, take_all}
use Rattle.std.proofs.lemmas.List.{get_or-append-add, take_more}
use Rattle.std.proofs.Math.Seq.{get_or-append_seam}
use Rattle.std.proofs.lemmas.List.Elements.{All-append, All-cons, All-nil}
use Rattle.std.proofs.lemmas.List.Splits.{slice_split_at, slice_split_none, slice_split-cons_yes, slice_split-cons_no}
use Rattle.std.specs.List.{slice_split, onto_first}
use Rattle.std.specs.Str.Lines.{lines, lines_of_parts, strip_carriage_return}
use Rattle.std.specs.Io.{IsEmptyOrEndsWith}
use Rattle.request_lines.specs.declared.lines.Line.{Line}
use Rattle.frame_session.specs.Live.{AreAsked, HasShortLines, longest_line}
use Rattle.frame_session.specs.LiveSteps.{IsShort}

-- a list with a first element is not empty
onto_first-append : (x : ℕ) (parts : List (List ℕ)) (more : List (List ℕ)) → 0 < length parts → onto_first x (parts ++ more) ≡ onto_first x parts ++ more
onto_first-append x [] more some = absurd (omega (arith, some))
onto_first-append x (part ∷ parts) more some = refl

onto_first-some : (x : ℕ) (parts : List (List ℕ)) → 0 < length (onto_first x parts)
onto_first-some x [] = omega arith
onto_first-some x (part ∷ parts) = omega arith

module _ (p : ℕ → Bool) where
  split_some : (xs : List ℕ) → 0 < length (slice_split p xs)
  split_some [] = omega arith
  split_some (x ∷ xs) = by_first (p x) refl
    where
      by_first : (b : Bool) → p x ≡ b → 0 < length (slice_split p (x ∷ xs))
      by_first true e = rw (slice_split-cons_yes p x xs e) (omega arith)
      by_first false e = rw (slice_split-cons_no p x xs e) (onto_first-some x (slice_split p xs))

  -- an element that passes parts what is before it from what follows
  split_through : (xs : List ℕ) (y : ℕ) (ys : List ℕ) → p y ≡ true → slice_split p (xs ++ y ∷ ys) ≡ slice_split p xs ++ slice_split p ys
  split_through [] y ys passes = slice_split-cons_yes p y ys passes
  split_through (x ∷ xs) y ys passes = by_first (p x) refl (split_through xs y ys passes)
    where
      by_first : (b : Bool) → p x ≡ b → slice_split p (xs ++ y ∷ ys) ≡ slice_split p xs ++ slice_split p ys → slice_split p (x ∷ (xs ++ y ∷ ys)) ≡ slice_split p (x ∷ xs) ++ slice_split p ys
      by_first true e ih = slice_split-cons_yes p x (xs ++ y ∷ ys) e ∙ ap (λ parts. [] ∷ parts) ih ∙ ap (λ parts. parts ++ slice_split p ys) (sym (slice_split-cons_yes p x xs e))
      by_first false e ih =
          slice_split-cons_no p x (xs ++ y ∷ ys) e
          ∙ ap (onto_first x) ih
          ∙ onto_first-append x (slice_split p xs) (slice_split p ys) (split_some xs)
          ∙ ap (λ parts. parts ++ slice_split p ys) (sym (slice_split-cons_no p x xs e))

-- parts that another part follows are lines
parts_before : (parts : List (List ℕ)) (more : List (List ℕ)) → 0 < length more → lines_of_parts (parts ++ more) ≡ map strip_carriage_return parts ++ lines_of_parts more
parts_before parts [] some = absurd (omega (arith, some))
parts_before [] (part ∷ more) some = refl
parts_before (x ∷ []) (part ∷ more) some = refl
parts_before (x ∷ y ∷ parts) (part ∷ more) some = ap (λ ls. strip_carriage_return x ∷ ls) (parts_before (y ∷ parts) (part ∷ more) some)

-- the lines before a newline, and those after it
lines_through : (front text : List ℕ) → lines (front ++ 10 ∷ text) ≡ map strip_carriage_return (slice_split (λ b. b == 10) front) ++ lines text
lines_through front text =
    ap lines_of_parts (split_through (λ b. b == 10) front 10 text (eq-eqb 10 10 refl))
    ∙ parts_before (slice_split (λ b. b == 10) front) (slice_split (λ b. b == 10) text) (split_some (λ b. b == 10) text)

-- a text that is empty or ends with a newline, and a text after it
pub lines-append : (whole text : List ℕ) → IsEmptyOrEndsWith whole 10 → lines (whole ++ text) ≡ lines whole ++ lines text
lines-append [] text ends = refl
lines-append (x ∷ xs) text ends = subst (λ whole. lines (whole ++ text) ≡ lines whole ++ lines text) (sym split) with_newline
  where
    n : ℕ
    n = length (x ∷ xs) - 1

    front : List ℕ
    front = take n (x ∷ xs)

    split : x ∷ xs ≡ front ++ 10 ∷ []
    split = sym (take_all (n + 1) (x ∷ xs) (omega arith)) ∙ take_more (x ∷ xs) n 0 (omega arith) ∙ ap (λ b. front ++ b ∷ []) (ends (omega arith))

    with_newline : lines ((front ++ 10 ∷ []) ++ text) ≡ lines (front ++ 10 ∷ []) ++ lines text
    with_newline =
        ap lines (append_assoc front (10 ∷ []) text)
        ∙ lines_through front text
        ∙ ap (λ ls. ls ++ lines text) (sym (append-nil (map strip_carriage_return (slice_split (λ b. b == 10) front))) ∙ sym (lines_through front []))

-- the number of lines of both
pub count-append : (whole text : List ℕ) → IsEmptyOrEndsWith whole 10 → length (lines (whole ++ text)) ≡ length (lines whole) + length (lines text)
count-append whole text ends = ap length (lines-append whole text ends) ∙ length-append (lines whole) (lines text)

-- the requests of both
all_asked : (ls ls' : List (List ℕ)) (qs qs' : List Line) → AreAsked ls qs → AreAsked ls' qs' → AreAsked (ls ++ ls') (qs ++ qs')
all_asked [] ls' [] qs' asked asked' = asked'
all_asked [] ls' (q ∷ qs) qs' asked asked' = absurd asked
all_asked (l ∷ ls) ls' [] qs' asked asked' = absurd asked
all_asked (l ∷ ls) ls' (q ∷ qs) qs' asked asked' = (asked.0, all_asked ls ls' qs qs' asked.1 asked')

pub asked-append : (whole text : List ℕ) (qs qs' : List Line) → IsEmptyOrEndsWith whole 10 → AreAsked (lines whole) qs → AreAsked (lines text) qs' → AreAsked (lines (whole ++ text)) (qs ++ qs')
asked-append whole text qs qs' ends asked asked' = subst (λ ls. AreAsked ls (qs ++ qs')) (sym (lines-append whole text ends)) (all_asked (lines whole) (lines text) qs qs' asked asked')

pub short-append : (whole text : List ℕ) → IsEmptyOrEndsWith whole 10 → HasShortLines whole → HasShortLines text → HasShortLines (whole ++ text)
short-append whole text ends short short' = subst (All (λ line. length line ≤ longest_line)) (sym (lines-append whole text ends)) (All-append (λ line. length line ≤ longest_line) (lines whole) (lines text) short short')

-- both end with a newline, if they are not empty
pub ends-append : (whole text : List ℕ) → IsEmptyOrEndsWith whole 10 → IsEmptyOrEndsWith text 10 → IsEmptyOrEndsWith (whole ++ text) 10
ends-append whole [] ends ends' = subst (λ bytes. IsEmptyOrEndsWith bytes 10) (sym (append-nil whole)) ends
ends-append whole (x ∷ xs) ends ends' = λ some.
    let text = x ∷ xs in
    let last : length (whole ++ text) - 1 ≡ length whole + (length text - 1) = omega (arith, length-append whole text) in
    ap (λ k. get_or (whole ++ text) k 0) last ∙ get_or-append-add whole text (length text - 1) 0 ∙ ends' (omega arith)

-- a line without a newline
module _ (line : List ℕ) (short : IsShort line) where
  no_byte_passes : All (λ b. (b == 10) ≡ false) line
  no_byte_passes k d lt = ne_eqb (get_or line k d) 10 (short.none k d lt)

  stripped_short : length (strip_carriage_return line) ≤ longest_line
  stripped_short = by_last (get_or line (length line - 1) 0 == 13)
    where
      by_last : (b : Bool) → length (cond b (take (length line - 1) line) line) ≤ longest_line
      by_last true = omega (arith, short.few, length-take-le (length line - 1) line (omega arith))
      by_last false = short.few

  before_newline : lines (line ++ 10 ∷ []) ≡ strip_carriage_return line ∷ []
  before_newline = ap lines_of_parts (slice_split_at (λ b. b == 10) line 10 [] no_byte_passes (eq-eqb 10 10 refl))

  unterminated : lines line ≡ cond (length line == 0) [] (line ∷ [])
  unterminated = ap lines_of_parts (slice_split_none (λ b. b == 10) line no_byte_passes)

-- the only line of a text: the bytes before a newline, or all bytes
pub record IsOnly (text line : List ℕ) : Type 0 where
  pub one : lines text ≡ line ∷ []
  pub few : length line ≤ longest_line

pub only_before_newline : (line : List ℕ) → IsShort line → IsOnly (line ++ 10 ∷ []) (strip_carriage_return line)
only_before_newline line short = record { one = before_newline line short; few = stripped_short line short }

pub only_last : (line : List ℕ) → IsShort line → 0 < length line → IsOnly line line
only_last line short some = record { one = unterminated line short ∙ ap (λ (b : Bool). cond b [] (line ∷ [])) (ne_eqb (length line) 0 (λ e. omega (arith, e, some))); few = short.few }

pub only_short : (text line : List ℕ) → IsOnly text line → HasShortLines text
only_short text line is = subst (All (λ line. length line ≤ longest_line)) (sym is.one) (All-cons (λ line. length line ≤ longest_line) line [] is.few (All-nil (λ line. length line ≤ longest_line)))

-- a text that a newline ends
pub newline_ends : (line : List ℕ) → IsEmptyOrEndsWith (line ++ 10 ∷ []) 10
newline_ends line = λ some.
    let last : length (line ++ 10 ∷ []) - 1 ≡ length line = omega (arith, length-append line (10 ∷ [])) in
    ap (λ k. get_or (line ++ 10 ∷ []) k 0) last ∙ get_or-append_seam line 10 [] 0
