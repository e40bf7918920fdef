-- The bytes of a line, part by part.
use Rattle.std.proofs.Common.{◌≡◌, ℕ, ◌+◌, ◌-◌, ◌<◌, ◌≤◌, ◌==◌, true, false, List, [], ◌∷◌, ◌++◌, Option, Some, None, OnSome, Result, Ok, Err, IfOk, IfErr, length, take, get_or, get_or-take, length-take-le, length-append, append_assoc, append-nil, eq-eqb, eqb-true, sym, ap, ◌∙◌, subst, arith}
use Rattle.std.proofs.lemmas.Bool.{false≢true}
use Rattle.std.proofs.lemmas.List.{take_more}
use Rattle.std.proofs.lemmas.List.Elements.{All-append, All-nil}
use Rattle.std.proofs.lemmas.List.Sums.{fails_before_first, passes_at_first}
use Rattle.std.proofs.KnownBytes.{Consumes-nil, Consumes-trans}
use Rattle.std.specs.List.{position_or_len}
use Rattle.std.specs.Io.KnownBytes.{Consumes, IsAtEnd}
use Rattle.frame_session.specs.declared.live.LiveFault.{LiveFault}
use Rattle.frame_session.specs.declared.live.LiveFault.TheVariants as faults
use Rattle.frame_session.specs.Live.{HasNoNewline, IsCutOff, longest_line}
use Rattle.frame_session.specs.declared.live.LineRead.{LineRead}
use Rattle.frame_session.specs.declared.live.Reached.{Reached}
use Rattle.frame_session.specs.declared.live.Reached.TheVariants.{Within, Newline, End}
use Rattle.frame_session.specs.LiveSteps.{IsRead, IsShort, ReadsLine, ReadsPart}

newline_at : List ℕ → ℕ
newline_at xs = position_or_len (λ b. b == 10) xs

-- no newline comes before the first one
none_before : (xs : List ℕ) (n : ℕ) → n ≡ position_or_len (λ b. b == 10) xs → n ≤ length xs → HasNoNewline (take n xs)
none_before xs n at within k d lt is =
    let before : k < n = omega (arith, lt, length-take-le n xs within) in
    let other : (get_or xs k d == 10) ≡ false = fails_before_first (λ b. b == 10) xs k d (omega (arith, before, at)) in
    let same : get_or xs k d ≡ 10 = sym (get_or-take n xs k d before) ∙ is in
    false≢true (sym other ∙ eq-eqb (get_or xs k d) 10 same)

-- bytes up to a newline and with it
with_newline : (xs : List ℕ) (n : ℕ) → n ≡ position_or_len (λ b. b == 10) xs → n < length xs → take (n + 1) xs ≡ take n xs ++ 10 ∷ []
with_newline xs n at within =
    let first : get_or xs n 0 ≡ 10 = ap (λ k. get_or xs k 0) at ∙ eqb-true _ _ (passes_at_first (λ b. b == 10) xs 0 (omega (arith, at, within))) in
    take_more xs n 0 within ∙ ap (λ b. take n xs ++ b ∷ []) first

-- a line with more bytes that have no newline
short_more : (line part : List ℕ) → IsShort line → HasNoNewline part → length line + length part ≤ longest_line → IsShort (line ++ part)
short_more line part short none few = record { none = All-append (λ b. b ≡ 10 → ⊥) line part short.none none; few = omega (arith, few, length-append line part) }

module _ (a c : Option (List ℕ)) (read : LineRead) (line ready : List ℕ) (n : ℕ) (short : IsShort line) (at : n ≡ position_or_len (λ b. b == 10) ready) (within : n ≤ length ready) where
  longer : length line + n ≤ longest_line → IsShort (line ++ take n ready)
  longer few = short_more line (take n ready) short (none_before ready n at within) (omega (arith, length-take-le n ready within, few))

  -- a newline is ready
  pub part_ends : n < length ready → length line + n ≤ longest_line → IsRead read (line ++ take n ready) → ReadsPart a c read line (take (n + 1) ready) (Ok Newline)
  part_ends some few is = (take n ready, with_newline ready n at some, is, longer few)

  -- no newline is ready
  pub part_goes_on : length line + n ≤ longest_line → IsRead read (line ++ take n ready) → ReadsPart a c read line (take n ready) (Ok Within)
  part_goes_on few is = (is, longer few)

  -- no bytes are left
  pub part_at_end : n ≡ 0 → IsRead read (line ++ take n ready) → OnSome a (IsAtEnd c) → ReadsPart a c read line (take n ready) (Ok End)
  part_at_end none is end =
      let nothing : take n ready ≡ [] = ap (λ k. take k ready) none in
      (nothing, subst (IsRead read) (ap (λ p. line ++ p) nothing ∙ append-nil line) is, end)

  -- the line is too long
  pub part_too_long : longest_line - length line < n → ReadsPart a c read line (take n ready) (Err faults.TooLong)
  part_too_long many =
      (All-append (λ b. b ≡ 10 → ⊥) line (take n ready) short.none (none_before ready n at within), omega (arith, many, length-append line (take n ready), length-take-le n ready within))

-- nothing more was read
module _ (a c : Option (List ℕ)) (read : LineRead) (line : List ℕ) (is : IsRead read line) (short : IsShort line) where
  pub part_unread : (r : Result Reached LiveFault) → IfOk r (λ reached. reached ≡ Within) → IfErr r (λ fault. fault ≡ faults.Read) → ReadsPart a c read line [] r
  part_unread (Ok reached) again why = subst (λ (x : Reached). ReadsPart a c read line [] (Ok x)) (sym again) (subst (IsRead read) (sym (append-nil line)) is, subst IsShort (sym (append-nil line)) short)
  part_unread (Err fault) again why = subst (λ (x : LiveFault). IsCutOff [] (line ++ []) x) (sym why) (subst HasNoNewline (sym (append-nil line)) short.none)

-- the end of the bytes is known, if the bytes were
pub at_end : (a b c : Option (List ℕ)) (text : List ℕ) → Consumes a b text → OnSome b (IsAtEnd c) → OnSome a (IsAtEnd c)
at_end None b c text taken end = tt
at_end (Some xs) None c text taken end = absurd taken
at_end (Some xs) (Some ys) c text taken end = end

-- what was read of a line
pub record IsWithin (a b : Option (List ℕ)) (read : LineRead) : Type 0 where
  pub line : List ℕ
  pub is : IsRead read line
  pub short : IsShort line
  pub taken : Consumes a b line

-- one more part of a line
module _ (a b c : Option (List ℕ)) (old read : LineRead) (before : IsWithin a b old) where
  -- the bytes so far, and the bytes of the part
  both_taken : (part : List ℕ) → Consumes b c part → Consumes a c (before.line ++ part)
  both_taken part more = Consumes-trans a b c before.line part before.taken more

  -- for all bytes that may have been read of a line, the bytes of one more part
  abbrev pub MorePart : Result Reached LiveFault → Type 0
  MorePart r = (text : List ℕ) → IsRead old text → IsShort text → (part : List ℕ) × Consumes b c part × ReadsPart b c read text part r

  pub line_goes_on : MorePart (Ok Within) → IsWithin a c read
  line_goes_on more =
      let x = more before.line before.is before.short in
      record { line = before.line ++ x.0; is = x.2.0; short = x.2.1; taken = both_taken x.0 x.1 }

  pub line_ends : MorePart (Ok Newline) → ReadsLine a c read (Ok true)
  line_ends more =
      let x = more before.line before.is before.short in
      let whole : before.line ++ x.0 ≡ (before.line ++ x.2.0) ++ 10 ∷ [] = ap (λ p. before.line ++ p) x.2.1 ∙ sym (append_assoc before.line x.2.0 (10 ∷ [])) in
      (before.line ++ x.2.0, x.2.2, x.2.3, subst (Consumes a c) whole (both_taken x.0 x.1))

  pub line_is_last : MorePart (Ok End) → ReadsLine a c read (Ok false)
  line_is_last more =
      let x = more before.line before.is before.short in
      let whole : before.line ++ x.0 ≡ before.line = ap (λ p. before.line ++ p) x.2.0 ∙ append-nil before.line in
      (before.line, x.2.1, before.short, subst (Consumes a c) whole (both_taken x.0 x.1), at_end a b c before.line before.taken x.2.2)

  pub line_cut_off : (fault : LiveFault) → MorePart (Err fault) → (part : List ℕ) × Consumes a c part × IsCutOff [] part fault
  line_cut_off fault more = let x = more before.line before.is before.short in (before.line ++ x.0, both_taken x.0 x.1, x.2)

-- a line that has no bytes yet
pub nothing_read : (a : Option (List ℕ)) (read : LineRead) → IsRead read [] → IsWithin a a read
nothing_read a read is = record { line = []; is = is; short = record { none = All-nil (λ b. b ≡ 10 → ⊥); few = omega arith }; taken = Consumes-nil a }
