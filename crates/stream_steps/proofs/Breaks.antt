-- Laws of the outcomes of a stream.
use Rattle.std.proofs.Common.{◌≡◌, ℕ, suc, zero, ◌+◌, ◌≤◌, ◌⊎◌, inl, inr, List, [], ◌∷◌, Bool, true, false, cond, Some, None, Result, Ok, Err, length, slice_get, refl, sym, ap, ◌∙◌, arith, add-zero, zero-add}
use Rattle.vp8_tables.specs.declared.tables.Tables.{Tables}
use Rattle.frame_header.specs.declared.cause.Cause.{Cause}
use Rattle.frame_header.specs.Tags.{has_key_tag}
use Rattle.pixel_planes.specs.Pictures.{PictureSamples}
use Rattle.reference_frames.specs.declared.states.State.{State}
use Rattle.reference_frames.specs.Steps.{step_of}
use Rattle.stream_steps.specs.declared.broken.Broken.{Broken}
use Rattle.stream_steps.specs.Decoding.{Outcome, Progress, following, left_by, outcome, outcomes, outcomes_from, reported_at}

length-outcomes_from : (tables : Tables) (place : ℕ) (progress : Progress) (xs : List (List ℕ)) → length (outcomes_from tables place progress xs) ≡ length xs
length-outcomes_from tables place progress [] = refl
length-outcomes_from tables place progress (x ∷ xs) = ap suc (length-outcomes_from tables (place + 1) (left_by (outcome tables place progress x)) xs)

pub each_outcome : (tables : Tables) (packets : List (List ℕ)) → length (outcomes tables packets) ≡ length packets
each_outcome tables packets = length-outcomes_from tables 0 (Ok None) packets

-- a refused step breaks the stream at its own index
told_here : (place : ℕ) (answer : Result (State × PictureSamples) Cause) (broken : Broken) → reported_at place answer ≡ Err broken → broken.place ≡ place
told_here place (Ok decoded) broken e = cc
told_here place (Err cause) broken e = let same : record { place = place; cause = cause } ≡ broken = cc in ap (λ (b : Broken). b.place) (sym same)

behind_here : (tables : Tables) (place : ℕ) (progress : Progress) (packet : List ℕ) (broken : Broken) → following tables place progress packet ≡ Err broken → (progress ≡ Err broken) ⊎ (broken.place ≡ place)
behind_here tables place (Ok state) packet broken e = inr (told_here place (step_of tables state packet) broken e)
behind_here tables place (Err earlier) packet broken e = let same : earlier ≡ broken = cc in inl (ap Err same)

-- a broken outcome is a break from before, or one at this index
by_tag : (tables : Tables) (place : ℕ) (progress : Progress) (packet : List ℕ) (broken : Broken) (tag : Bool) → cond tag (reported_at place (step_of tables None packet)) (following tables place progress packet) ≡ Err broken → (progress ≡ Err broken) ⊎ (broken.place ≡ place)
by_tag tables place progress packet broken true e = inr (told_here place (step_of tables None packet) broken e)
by_tag tables place progress packet broken false e = behind_here tables place progress packet broken e

left_broken : (o : Outcome) (broken : Broken) → left_by o ≡ Err broken → o ≡ Err broken
left_broken (Ok decoded) broken e = cc
left_broken (Err earlier) broken e = let same : earlier ≡ broken = cc in ap Err same

-- the index of a reported break: before these packets, or at one of them
pub data MadeAt (tables : Tables) (place : ℕ) (progress : Progress) (xs : List (List ℕ)) (i : ℕ) (broken : Broken) : Type 0 where
  earlier : progress ≡ Err broken → MadeAt tables place progress xs i broken
  here : (j : ℕ) → j ≤ i → broken.place ≡ place + j → slice_get (outcomes_from tables place progress xs) j ≡ Some (Err broken) → MadeAt tables place progress xs i broken

made_first : (tables : Tables) (place : ℕ) (progress : Progress) (x : List ℕ) (xs : List (List ℕ)) (i : ℕ) (broken : Broken) → outcome tables place progress x ≡ Err broken → MadeAt tables place progress (x ∷ xs) i broken
made_first tables place progress x xs i broken e = elim (by_tag tables place progress x broken (has_key_tag x) e) [
  | inl before ↦ earlier before
  | inr at ↦ here 0 (omega arith) (at ∙ sym (add-zero place)) (ap Some e)
]

made : (tables : Tables) (place : ℕ) (progress : Progress) (xs : List (List ℕ)) (i : ℕ) (broken : Broken) → slice_get (outcomes_from tables place progress xs) i ≡ Some (Err broken) → MadeAt tables place progress xs i broken
made tables place progress [] i broken e = cc
made tables place progress (x ∷ xs) zero broken e = let o : outcome tables place progress x ≡ Err broken = cc in made_first tables place progress x xs 0 broken o
made tables place progress (x ∷ xs) (suc i) broken e = elim (made tables (place + 1) (left_by (outcome tables place progress x)) xs i broken e) [
  | earlier before ↦ made_first tables place progress x xs (suc i) broken (left_broken (outcome tables place progress x) broken before)
  | here j low at step_result ↦ here (suc j) (omega arith) (at ∙ omega arith) step_result
]

from_start : (tables : Tables) (packets : List (List ℕ)) (i : ℕ) (broken : Broken) → MadeAt tables 0 (Ok None) packets i broken → (broken.place ≤ i) × (slice_get (outcomes tables packets) broken.place ≡ Some (Err broken))
from_start tables packets i broken (earlier before) = cc
from_start tables packets i broken (here j low at step_result) =
    let place : broken.place ≡ j = at ∙ zero-add j in
    (omega arith, ap (λ (k : ℕ). slice_get (outcomes tables packets) k) place ∙ step_result)

pub break_named : (tables : Tables) (packets : List (List ℕ)) (i : ℕ) (broken : Broken) → slice_get (outcomes tables packets) i ≡ Some (Err broken) → (broken.place ≤ i) × (slice_get (outcomes tables packets) broken.place ≡ Some (Err broken))
break_named tables packets i broken e = from_start tables packets i broken (made tables 0 (Ok None) packets i broken e)

-- a packet with a key tag does not depend on the packets before it
key_from : (tables : Tables) (place : ℕ) (progress : Progress) (xs : List (List ℕ)) (i : ℕ) (x : List ℕ) → slice_get xs i ≡ Some x → has_key_tag x ≡ true → slice_get (outcomes_from tables place progress xs) i ≡ Some (reported_at (place + i) (step_of tables None x))
key_from tables place progress [] i x at tagged = cc
key_from tables place progress (y ∷ ys) zero x at tagged = let same : y ≡ x = cc in rw (same, tagged, add-zero) refl
key_from tables place progress (y ∷ ys) (suc i) x at tagged =
    let moved : place + suc i ≡ place + 1 + i = omega arith in
    rw moved (key_from tables (place + 1) (left_by (outcome tables place progress y)) ys i x at tagged)

pub key_anew : (tables : Tables) (packets : List (List ℕ)) (i : ℕ) (packet : List ℕ) → slice_get packets i ≡ Some packet → has_key_tag packet ≡ true → slice_get (outcomes tables packets) i ≡ Some (reported_at i (step_of tables None packet))
key_anew tables packets i packet at tagged =
    key_from tables 0 (Ok None) packets i packet at tagged ∙ ap (λ (k : ℕ). Some (reported_at k (step_of tables None packet))) (zero-add i)
