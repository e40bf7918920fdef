-- What one element adds.
use Rattle.std.proofs.Common.{◌≡◌, ℕ, ◌+◌, ◌-◌, ◌<◌, ◌≤◌, Bool, true, false, ◌||◌, inl, inr, List, length, drop, take, get_or, Some, None, refl, ap, ◌∙◌, arith, nat_lt}
use Rattle.std.proofs.lemmas.Bool.{lt-ltb, le-ltb, ne_eqb, eq-eqb, ltb-false, cases_lt}
use Rattle.std.proofs.lemmas.List.{take_rest}
use Rattle.webm_files.specs.declared.ids.TheConstants.{TIMESTAMP}
use Rattle.webm_files.specs.declared.elements.Element.{Element}
use Rattle.webm_files.specs.Elements.{HasNumber, is_block, width, unmarked}
use Rattle.webm_files.specs.Blocks.{base_after, block_in, block_of, content, whole_number, stamp_of}

pub whole_number-empty : (text : List ℕ) → length text ≡ 0 → 0 ≡ whole_number text
whole_number-empty text e = rw e refl

pub base_after-other : (file : List ℕ) (base : ℕ) (element : Element) → (element.id ≡ TIMESTAMP → ⊥) → base ≡ base_after file base element
unfolding base_after
base_after-other file base element other = rw (ne_eqb element.id TIMESTAMP other) refl

pub base_after-timestamp : (file : List ℕ) (base : ℕ) (element : Element) → element.id ≡ TIMESTAMP → whole_number (content file element) ≡ base_after file base element
unfolding base_after
base_after-timestamp file base element is = rw (eq-eqb element.id TIMESTAMP is) refl

-- how the two tests come out
either_true : (a b : Bool) → b ≡ true → (a || b) ≡ true
either_true true b e = refl
either_true false b e = e

pub no_number : (base place start : ℕ) (text : List ℕ) → ¬ HasNumber 8 text → None ≡ block_in base place start text
unfolding block_in
no_number base place start text none =
    let decide : (b : Bool) → nat_lt 8 (width text) ≡ b → (nat_lt 8 (width text) || nat_lt (length text) (width text + 3)) ≡ true
    = λ b. elim b as (λ v. nat_lt 8 (width text) ≡ v → (nat_lt 8 (width text) || nat_lt (length text) (width text + 3)) ≡ true) [
      | true ↦ λ e. rw e refl
      | false ↦ λ e. let within : width text ≤ 8 = ltb-false 8 (width text) e in
          let cut : length text < width text + 3 = elim (cases_lt (length text) (width text)) [ inl h ↦ omega (arith, h) | inr h ↦ absurd (none (within, h)) ] in
          either_true (nat_lt 8 (width text)) (nat_lt (length text) (width text + 3)) (lt-ltb (length text) (width text + 3) cut)
    ] in
    rw (decide (nat_lt 8 (width text)) refl) refl

pub short : (base place start : ℕ) (text : List ℕ) → length text < width text + 3 → None ≡ block_in base place start text
unfolding block_in
short base place start text cut = rw (either_true (nat_lt 8 (width text)) (nat_lt (length text) (width text + 3)) (lt-ltb (length text) (width text + 3) cut)) refl

pub whole : (base place start track stamp flags size : ℕ) (text : List ℕ) → HasNumber 8 text → width text + 3 ≤ length text → size ≡ width text
    → track ≡ unmarked text → stamp ≡ stamp_of base (take (length text - size) (drop size text)) → flags ≡ get_or text (size + 2) 0
    → Some (record { track = track; stamp = stamp; flags = flags; place = place; start = start + (size + 3); end = start + length text }) ≡ block_in base place start text
unfolding block_in
whole base place start track stamp flags size text has long is_size is_track is_stamp is_flags =
    let first : nat_lt 8 (width text) ≡ false = le-ltb 8 (width text) has.0 in
    let second : nat_lt (length text) (width text + 3) ≡ false = le-ltb (length text) (width text + 3) long in
    let stamped : stamp ≡ stamp_of base (drop (width text) text) = is_stamp ∙ ap (stamp_of base) (take_rest text size) ∙ ap (λ n. stamp_of base (drop n text)) is_size in
    let flagged : flags ≡ get_or text (width text + 2) 0 = is_flags ∙ ap (λ n. get_or text (n + 2) 0) is_size in
    rw (first, second, stamped, flagged, is_track, is_size) refl

pub block_of-block : (file : List ℕ) (base : ℕ) (element : Element) → is_block element.id ≡ true → block_in base element.place element.start (content file element) ≡ block_of file base element
unfolding block_of
block_of-block file base element is = rw is refl

pub block_of-other : (file : List ℕ) (base : ℕ) (element : Element) → is_block element.id ≡ false → None ≡ block_of file base element
unfolding block_of
block_of-other file base element is = rw is refl
