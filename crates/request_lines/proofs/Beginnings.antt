-- The beginnings of lines, part by part.
use Rattle.std.proofs.Common.{◌≡◌, ℕ, ◌+◌, ◌-◌, ◌<◌, ◌≤◌, suc, Bool, true, false, cond, ◌==◌, not, ◌||◌, is_some, ◌&&◌, List, [], ◌∷◌, ◌++◌, Option, Some, None, length, take, drop, get_or, nat_lt, lt-ltb, refl, sym, ap, ◌∙◌, arith, length-append}
use Rattle.std.proofs.lemmas.Bool.Decides.{nat_tests}
use Rattle.std.specs.Str.Lines.{strip_carriage_return}
use Rattle.std.specs.List.{prefix_len}
use Rattle.text_words.specs.Words.{from_word}
use Rattle.request_lines.specs.declared.lost.Beginning.{Beginning}
use Rattle.request_lines.specs.Lost.{beginning_at, beginning_of, is_return, lost_by, lost_from}

one_more : (n : ℕ) → 1 + n ≡ suc n
one_more n = omega arith

-- a space is dropped, another byte is the first
pub from_word-space : (x : ℕ) (xs : List ℕ) → (x == 32) ≡ true → from_word (x ∷ xs) ≡ from_word xs
from_word-space x xs e = rw (e, one_more) refl

pub from_word-first : (x : ℕ) (xs : List ℕ) → (x == 32) ≡ false → from_word (x ∷ xs) ≡ x ∷ xs
from_word-first x xs e = rw e refl

-- more bytes after spaces
pub from_word-none : (xs ys : List ℕ) → from_word xs ≡ [] → from_word (xs ++ ys) ≡ from_word ys
from_word-none [] ys none = refl
from_word-none (x ∷ xs) ys none = by_first (x == 32) refl (from_word-none xs ys)
  where
    by_first : (b : Bool) → (x == 32) ≡ b → (from_word xs ≡ [] → from_word (xs ++ ys) ≡ from_word ys) → from_word (x ∷ (xs ++ ys)) ≡ from_word ys
    by_first true e ih = from_word-space x (xs ++ ys) e ∙ ih (sym (from_word-space x xs e) ∙ none)
    by_first false e ih = let no : x ∷ xs ≡ [] = sym (from_word-first x xs e) ∙ none in cc

-- more bytes after the first one
pub from_word-some : (xs ys : List ℕ) (w : ℕ) (ws : List ℕ) → from_word xs ≡ w ∷ ws → from_word (xs ++ ys) ≡ w ∷ (ws ++ ys)
from_word-some [] ys w ws some = cc
from_word-some (x ∷ xs) ys w ws some = by_first (x == 32) refl (from_word-some xs ys w ws)
  where
    by_first : (b : Bool) → (x == 32) ≡ b → (from_word xs ≡ w ∷ ws → from_word (xs ++ ys) ≡ w ∷ (ws ++ ys)) → from_word (x ∷ (xs ++ ys)) ≡ w ∷ (ws ++ ys)
    by_first true e ih = from_word-space x (xs ++ ys) e ∙ ih (sym (from_word-space x xs e) ∙ some)
    by_first false e ih = from_word-first x (xs ++ ys) e ∙ ap (λ (zs : List ℕ). zs ++ ys) (sym (from_word-first x xs e) ∙ some)

-- a carriage return at the end is one of the bytes after the first
pub strip-cons : (x y : ℕ) (ys : List ℕ) → strip_carriage_return (x ∷ y ∷ ys) ≡ x ∷ strip_carriage_return (y ∷ ys)
strip-cons x y ys = by_last (get_or (y ∷ ys) (length (y ∷ ys) - 1) 0 == 13) refl
  where
    n : ℕ
    n = length (y ∷ ys) - 1

    index : length (x ∷ y ∷ ys) - 1 ≡ suc n
    index = omega arith

    stripped : ℕ → List ℕ
    stripped k = cond (get_or (x ∷ y ∷ ys) k 0 == 13) (take k (x ∷ y ∷ ys)) (x ∷ y ∷ ys)

    by_last : (b : Bool) → (get_or (y ∷ ys) n 0 == 13) ≡ b → strip_carriage_return (x ∷ y ∷ ys) ≡ x ∷ strip_carriage_return (y ∷ ys)
    by_last true e = ap stripped index ∙ ap (λ (c : Bool). cond c (x ∷ take n (y ∷ ys)) (x ∷ y ∷ ys)) e ∙ ap (λ (c : Bool). x ∷ cond c (take n (y ∷ ys)) (y ∷ ys)) (sym e)
    by_last false e = ap stripped index ∙ ap (λ (c : Bool). cond c (x ∷ take n (y ∷ ys)) (x ∷ y ∷ ys)) e ∙ ap (λ (c : Bool). x ∷ cond c (take n (y ∷ ys)) (y ∷ ys)) (sym e)

-- leading spaces and a carriage return at the end are dropped in any order
pub from_word-strip : (xs : List ℕ) → from_word (strip_carriage_return xs) ≡ strip_carriage_return (from_word xs)
from_word-strip [] = refl
from_word-strip (x ∷ []) = by_first (x == 32) refl (x == 13) refl
  where
    by_first : (b : Bool) → (x == 32) ≡ b → (c : Bool) → (x == 13) ≡ c → from_word (strip_carriage_return (x ∷ [])) ≡ strip_carriage_return (from_word (x ∷ []))
    by_first true e true e' = rw (e, e') refl
    by_first true e false e' = rw (e', e) refl
    by_first false e true e' = rw (e, e') refl
    by_first false e false e' = rw (e', e, e') refl
from_word-strip (x ∷ y ∷ ys) = by_first (x == 32) refl (from_word-strip (y ∷ ys))
  where
    by_first : (b : Bool) → (x == 32) ≡ b → from_word (strip_carriage_return (y ∷ ys)) ≡ strip_carriage_return (from_word (y ∷ ys)) → from_word (strip_carriage_return (x ∷ y ∷ ys)) ≡ strip_carriage_return (from_word (x ∷ y ∷ ys))
    by_first true e ih = ap from_word (strip-cons x y ys) ∙ from_word-space x (strip_carriage_return (y ∷ ys)) e ∙ ih ∙ ap strip_carriage_return (sym (from_word-space x (y ∷ ys) e))
    by_first false e ih = ap from_word (strip-cons x y ys) ∙ from_word-first x (strip_carriage_return (y ∷ ys)) e ∙ sym (strip-cons x y ys) ∙ ap strip_carriage_return (sym (from_word-first x (y ∷ ys) e))

-- the beginning of a line, part by part
module _ (b : Beginning) (line part : List ℕ) (is : b ≡ beginning_of line) where
  words_are : (ws : List ℕ) → from_word line ≡ ws → b ≡ beginning_at ws
  words_are ws e = is ∙ ap beginning_at e

  pub begins_later : is_some b.first ≡ false → beginning_at (from_word part) ≡ beginning_of (line ++ part)
  begins_later none = by_words (from_word line) refl
    where
      by_words : (ws : List ℕ) → from_word line ≡ ws → beginning_at (from_word part) ≡ beginning_of (line ++ part)
      by_words [] e = ap beginning_at (sym (from_word-none line part e))
      by_words (w ∷ ws) e = let no : true ≡ false = ap (λ (x : Beginning). is_some x.first) (sym (words_are (w ∷ ws) e)) ∙ none in cc

  pub goes_on : is_some b.first ≡ true → (more : Bool) → more ≡ (b.has_more || not (length part == 0)) → record { first = b.first; has_more = more } ≡ beginning_of (line ++ part)
  goes_on some more more_is = by_words (from_word line) refl
    where
      longer : (ws : List ℕ) → (nat_lt 0 (length ws) || not (length part == 0)) ≡ nat_lt 0 (length (ws ++ part))
      longer [] = grind (arith, nat_tests)
      longer (w ∷ ws) = grind (arith, nat_tests, length-append ws part)

      by_words : (ws : List ℕ) → from_word line ≡ ws → record { first = b.first; has_more = more } ≡ beginning_of (line ++ part)
      by_words [] e = let no : false ≡ true = ap (λ (x : Beginning). is_some x.first) (sym (words_are [] e)) ∙ some in cc
      by_words (w ∷ ws) e =
          let more' : more ≡ nat_lt 0 (length (ws ++ part)) = more_is ∙ ap (λ (x : Beginning). x.has_more || not (length part == 0)) (words_are (w ∷ ws) e) ∙ longer ws in
          let first' : b.first ≡ Some w = ap (λ (x : Beginning). x.first) (words_are (w ∷ ws) e) in
          let made : beginning_of (line ++ part) ≡ record { first = Some w; has_more = nat_lt 0 (length (ws ++ part)) } = ap beginning_at (from_word-some line part w ws e) in
          rw (first', more') (sym made)

-- the request of a line, from its beginning
strip_first : (ws : List ℕ) → (beginning_at (strip_carriage_return ws)).first ≡ cond (is_return (beginning_at ws)) None (beginning_at ws).first
strip_first [] = refl
strip_first (w ∷ []) = by_first (w == 13) refl
  where
    by_first : (c : Bool) → (w == 13) ≡ c → (beginning_at (strip_carriage_return (w ∷ []))).first ≡ cond (is_return (beginning_at (w ∷ []))) None (Some w)
    by_first true e = rw e refl
    by_first false e = rw e refl
strip_first (w ∷ x ∷ ws) = by_first (w == 13) refl
  where
    more : nat_lt 0 (length (x ∷ ws)) ≡ true
    more = lt-ltb 0 (length (x ∷ ws)) (omega arith)

    by_first : (c : Bool) → (w == 13) ≡ c → (beginning_at (strip_carriage_return (w ∷ x ∷ ws))).first ≡ cond (is_return (beginning_at (w ∷ x ∷ ws))) None (Some w)
    by_first true e =
        let P : Bool → Bool → Option ℕ = λ c m. cond (c && not m) None (Some w) in
        ap (λ (zs : List ℕ). (beginning_at zs).first) (strip-cons w x ws) ∙ ap (P true) (sym more) ∙ ap (λ (c : Bool). P c (nat_lt 0 (length (x ∷ ws)))) (sym e)
    by_first false e =
        let P : Bool → Option ℕ = λ c. cond (c && not (nat_lt 0 (length (x ∷ ws)))) None (Some w) in
        ap (λ (zs : List ℕ). (beginning_at zs).first) (strip-cons w x ws) ∙ ap P (sym e)

pub request_is : (b : Beginning) (line : List ℕ) (t : Bool) → b ≡ beginning_of line → lost_by (cond t (strip_carriage_return line) line) ≡ lost_from (cond (t && is_return b) None b.first)
request_is b line true is =
    ap (λ (ws : List ℕ). lost_from (beginning_at ws).first) (from_word-strip line)
    ∙ ap lost_from (strip_first (from_word line))
    ∙ ap (λ (x : Beginning). lost_from (cond (is_return x) None x.first)) (sym is)
request_is b line false is = ap (λ (x : Beginning). lost_from x.first) (sym is)
