-- The shown list: its laws, and how an index finds it.
use Rattle.std.proofs.Common.{◌≡◌, ℕ, suc, zero, ◌+◌, ◌<◌, List, [], ◌∷◌, Bool, true, false, cond, min, Option, Some, None, IfSome, map, length, slice_get, take, refl, sym, ap, ◌∙◌, arith, add-zero, zero-add}
use Rattle.frame_header.specs.Tags.{is_shown}
use Rattle.packet_edits.specs.declared.entry.Entry.{Entry}
use Rattle.packet_edits.specs.FlagCounts.{count_with, flagged_before, indexes_from}
use Rattle.packet_edits.specs.Shown.{shown_from, shown_indexes}

-- an index in the shown list of packets whose first has the index `start`, and its packet
pub record IsListed (start place : ℕ) (xs : List (List ℕ)) : Type 0 where
  pub index : ℕ
  pub at : place ≡ start + index
  pub packet : List ℕ
  pub here : slice_get xs index ≡ Some packet
  pub shown : is_shown packet ≡ true

one_on : (start place : ℕ) (x : List ℕ) (xs : List (List ℕ)) → IsListed (start + 1) place xs → IsListed start place (x ∷ xs)
one_on start place x xs l = record { index = suc l.index; at = l.at ∙ omega arith; packet = l.packet; here = l.here; shown = l.shown }

listed_if : (start : ℕ) (x : List ℕ) (xs : List (List ℕ)) (n place : ℕ) (b : Bool) → ((m : ℕ) → slice_get (shown_from (start + 1) xs) m ≡ Some place → IsListed (start + 1) place xs) → is_shown x ≡ b → slice_get (cond b (start ∷ shown_from (start + 1) xs) (shown_from (start + 1) xs)) n ≡ Some place → IsListed start place (x ∷ xs)
listed_if start x xs zero place true later shown e = let same : start ≡ place = cc in record { index = 0; at = sym same ∙ sym (add-zero start); packet = x; here = refl; shown = shown }
listed_if start x xs (suc n) place true later shown e = one_on start place x xs (later n e)
listed_if start x xs n place false later shown e = one_on start place x xs (later n e)

pub listed : (start : ℕ) (xs : List (List ℕ)) (n place : ℕ) → slice_get (shown_from start xs) n ≡ Some place → IsListed start place xs
listed start [] n place e = cc
listed start (x ∷ xs) n place e = listed_if start x xs n place (is_shown x) (λ m h. listed (start + 1) xs m place h) refl e

-- each index of the shown list is the index of a shown packet
pub indexes_are_shown : (packets : List (List ℕ)) (n place : ℕ) → slice_get (shown_indexes packets) n ≡ Some place → (packet : List ℕ) × (slice_get packets place ≡ Some packet) × (is_shown packet ≡ true)
indexes_are_shown packets n place e =
    let l = listed 0 packets n place e in
    (l.packet, ap (λ (i : ℕ). slice_get packets i) (l.at ∙ zero-add l.index) ∙ l.here, l.shown)

-- the position of a packet in the shown list
pub record HasNumber (start index : ℕ) (xs : List (List ℕ)) : Type 0 where
  pub number : ℕ
  pub at : slice_get (shown_from start xs) number ≡ Some (start + index)

numbered_first : (start : ℕ) (x : List ℕ) (xs : List (List ℕ)) → is_shown x ≡ true → HasNumber start 0 (x ∷ xs)
numbered_first start x xs shown = record { number = 0; at = rw (shown, add-zero) refl }

numbered_later : (start index : ℕ) (x : List ℕ) (xs : List (List ℕ)) (b : Bool) → is_shown x ≡ b → HasNumber (start + 1) index xs → HasNumber start (suc index) (x ∷ xs)
numbered_later start index x xs true shown h = let moved : start + suc index ≡ start + 1 + index = omega arith in record { number = suc h.number; at = rw (shown, moved) h.at }
numbered_later start index x xs false hidden h = let moved : start + suc index ≡ start + 1 + index = omega arith in record { number = h.number; at = rw (hidden, moved) h.at }

pub numbered : (start : ℕ) (xs : List (List ℕ)) (index : ℕ) (x : List ℕ) → slice_get xs index ≡ Some x → is_shown x ≡ true → HasNumber start index xs
numbered start [] index x e shown = cc
numbered start (y ∷ ys) zero x e shown = let same : y ≡ x = cc in numbered_first start y ys (ap is_shown same ∙ shown)
numbered start (y ∷ ys) (suc index) x e shown = numbered_later start index y ys (is_shown y) refl (numbered (start + 1) ys index x e shown)

-- each shown packet has a position in the shown list
pub shown_have_places : (packets : List (List ℕ)) (place : ℕ) (packet : List ℕ) → slice_get packets place ≡ Some packet → is_shown packet ≡ true → (n : ℕ) × (slice_get (shown_indexes packets) n ≡ Some place)
shown_have_places packets place packet e shown =
    let h = numbered 0 packets place packet e shown in
    (h.number, h.at ∙ ap (λ (k : ℕ). Some k) (zero-add place))

-- the shown list ascends
ascends_if : (start : ℕ) (xs : List (List ℕ)) (n m first later : ℕ) (b : Bool) → ((n' m' : ℕ) → slice_get (shown_from (start + 1) xs) n' ≡ Some first → slice_get (shown_from (start + 1) xs) m' ≡ Some later → n' < m' → first < later) → slice_get (cond b (start ∷ shown_from (start + 1) xs) (shown_from (start + 1) xs)) n ≡ Some first → slice_get (cond b (start ∷ shown_from (start + 1) xs) (shown_from (start + 1) xs)) m ≡ Some later → n < m → first < later
ascends_if start xs n zero first later b following e f less = absurd (omega arith)
ascends_if start xs zero (suc m) first later true following e f less =
    let same : start ≡ first = cc in
    let l = listed (start + 1) xs m later f in
    omega (arith, l.at)
ascends_if start xs (suc n) (suc m) first later true following e f less = following n m e f (omega arith)
ascends_if start xs n (suc m) first later false following e f less = following n (suc m) e f less

ascends_from : (start : ℕ) (xs : List (List ℕ)) (n m first later : ℕ) → slice_get (shown_from start xs) n ≡ Some first → slice_get (shown_from start xs) m ≡ Some later → n < m → first < later
ascends_from start [] n m first later e f less = cc
ascends_from start (x ∷ xs) n m first later e f less = ascends_if start xs n m first later (is_shown x) (λ n' m' e' f' less'. ascends_from (start + 1) xs n' m' first later e' f' less') e f less

pub shown_ascend : (packets : List (List ℕ)) (n m first later : ℕ) → slice_get (shown_indexes packets) n ≡ Some first → slice_get (shown_indexes packets) m ≡ Some later → n < m → first < later
shown_ascend packets n m first later e f less = ascends_from 0 packets n m first later e f less

-- the indexes that flags give are those of the shown packets
pub places_of_flags : (start : ℕ) (es : List Entry) → shown_from start (map (λ e. e.bytes) es) ≡ indexes_from start (map (λ e. is_shown e.bytes) es)
places_of_flags start [] = refl
places_of_flags start (e ∷ es) = rw (places_of_flags (start + 1) es) refl

-- and each of them is the index of a packet
pub packet_within : (es : List Entry) (index : ℕ) (packet : List ℕ) → slice_get (map (λ e. e.bytes) es) index ≡ Some packet → index < length es
packet_within [] index packet here = cc
packet_within (e ∷ es) zero packet here = omega arith
packet_within (e ∷ es) (suc index) packet here = let rest = packet_within es index packet here in omega (arith, rest)

pub place_within : (es : List Entry) (n place : ℕ) → slice_get (shown_indexes (map (λ e. e.bytes) es)) n ≡ Some place → place < length es
place_within es n place e =
    let l = listed 0 (map (λ e. e.bytes) es) n place e in
    let at : place ≡ 0 + l.index = l.at in
    let within = packet_within es l.index l.packet l.here in
    omega (arith, at, within)

pub answer_within : (es : List Entry) (n : ℕ) (answer : Option ℕ) → answer ≡ slice_get (shown_indexes (map (λ e. e.bytes) es)) n → IfSome answer (λ place. place < length es)
answer_within es n None reported = tt
answer_within es n (Some place) reported = place_within es n place (sym reported)

counted_if : (start count : ℕ) (places : List ℕ) (shown : Bool) → length places ≡ count → length (cond shown (start ∷ places) places) ≡ count_with count shown
counted_if start count places true same = omega (arith, same)
counted_if start count places false same = same

-- as many packets are shown before an index as are flagged
pub shown_are_flagged : (start : ℕ) (es : List Entry) (at end : ℕ) → end ≡ min at (length es)
    → length (shown_from start (take at (map (λ e. e.bytes) es))) ≡ flagged_before end (map (λ e. is_shown e.bytes) es)
shown_are_flagged start es zero zero is = refl
shown_are_flagged start es zero (suc end) is = absurd (omega (arith, is))
shown_are_flagged start [] (suc at) zero is = refl
shown_are_flagged start [] (suc at) (suc end) is = absurd (omega (arith, is))
shown_are_flagged start (e ∷ es) (suc at) zero is = absurd (omega (arith, is))
shown_are_flagged start (e ∷ es) (suc at) (suc end) is = counted_if start _ _ (is_shown e.bytes) (shown_are_flagged (start + 1) es at end (omega (arith, is)))
