-- The steps that lead to an outcome.
use Rattle.std.proofs.Common.{◌≡◌, ℕ, zero, suc, ◌+◌, ◌-◌, ◌≤◌, ◌<◌, Bool, true, false, cond, List, [], ◌∷◌, take, drop, slice_get, Option, Some, None, Result, Ok, Err, refl, sym, ap, subst, ◌∙◌, arith, zero-add}
use Rattle.std.specs.Option.{option_map_or}
use Rattle.vp8_tables.specs.declared.tables.Tables.{Tables}
use Rattle.vp8_tables.specs.Tables.{TableEntries}
use Rattle.frame_header.specs.Tags.{has_key_tag}
use Rattle.frame_header.specs.declared.cause.Cause.{Cause}
use Rattle.pixel_planes.specs.Pictures.{PictureSamples}
use Rattle.packet_edits.specs.Sizes.{key_tag_at}
use Rattle.reference_frames.specs.Steps.{step_of}
use Rattle.reference_frames.specs.declared.states.State.{State}
use Rattle.stream_steps.specs.Decoding.{Outcome, Progress, following, left_by, outcome, outcomes, outcomes_from, reported_at}
use Rattle.lossless_cuts.proofs.Views.{needs_state}

-- the first packet is accepted, and this holds of the state after it
pub record StepsFirst (tables : TableEntries) (before : Option State) (packet : List ℕ) (rest : Option State → Type 0) : Type 0 where
  pub d : State × PictureSamples
  pub is : step_of tables before packet ≡ Ok d
  pub onward : rest (Some d.0)

-- all packets are accepted in sequence
abbrev pub Steps : TableEntries → Option State → List (List ℕ) → Option State → Type 0
Steps tables before [] after = before ≡ after
Steps tables before (packet ∷ packets) after = StepsFirst tables before packet (λ mid. Steps tables mid packets after)

-- packets after this progress, and then one more with this result
pub record Reached (tables : TableEntries) (progress : Progress) (xs : List (List ℕ)) (y : List ℕ) (d : State × PictureSamples) : Type 0 where
  pub start : Option State
  pub was : progress ≡ Ok start
  pub state : Option State
  pub steps : Steps tables start xs state
  pub is : step_of tables state y ≡ Ok d

-- a packet with no key tag is stepped from the progress before it
plain_outcome : (tables : Tables) (place : ℕ) (progress : Progress) (x : List ℕ) → has_key_tag x ≡ false → outcome tables place progress x ≡ following tables place progress x
plain_outcome tables place progress x plain = ap (λ (b : Bool). cond b (reported_at place (step_of tables None x)) (following tables place progress x)) plain

key_outcome : (tables : Tables) (place : ℕ) (progress : Progress) (x : List ℕ) → has_key_tag x ≡ true → outcome tables place progress x ≡ reported_at place (step_of tables None x)
key_outcome tables place progress x key = ap (λ (b : Bool). cond b (reported_at place (step_of tables None x)) (following tables place progress x)) key

reported_ok : (place : ℕ) (r : Result (State × PictureSamples) Cause) (d : State × PictureSamples) → reported_at place r ≡ Ok d → r ≡ Ok d
reported_ok place (Ok e) d is = let same : e ≡ d = cc in ap (λ (x : State × PictureSamples). let s : Result (State × PictureSamples) Cause = Ok x in s) same
reported_ok place (Err cause) d is = cc

-- the step of a packet that was accepted
record Stepped (tables : TableEntries) (progress : Progress) (x : List ℕ) (d : State × PictureSamples) : Type 0 where
  start : Option State
  was : progress ≡ Ok start
  is : step_of tables start x ≡ Ok d

followed : (tables : Tables) (place : ℕ) (progress : Progress) (x : List ℕ) (d : State × PictureSamples) → following tables place progress x ≡ Ok d → Stepped tables progress x d
followed tables place (Ok start) x d is = record { start = start; was = refl; is = reported_ok place (step_of tables start x) d is }
followed tables place (Err broken) x d is = cc

-- an outcome that leaves a state
left_ok : (o : Outcome) (next : Option State) → left_by o ≡ Ok next → (d : State × PictureSamples) × (o ≡ Ok d) × (Some d.0 ≡ next)
left_ok (Ok d) next is = (d, refl, (let same : Some d.0 ≡ next = cc in same))
left_ok (Err broken) next is = cc

pub reach_later : (tables : Tables) (place : ℕ) (progress : Progress) (xs : List (List ℕ)) (i : ℕ) (y : List ℕ) (d : State × PictureSamples) → ((j : ℕ) → j ≤ i → key_tag_at xs j ≡ false)
    → slice_get xs i ≡ Some y → slice_get (outcomes_from tables place progress xs) i ≡ Some (Ok d) → Reached tables progress (take i xs) y d
reach_later tables place progress [] i y d none here found = cc
reach_later tables place progress (x ∷ xs) zero y d none here found =
    let same : x ≡ y = cc in
    let o : outcome tables place progress x ≡ Ok d = cc in
    let plain : has_key_tag x ≡ false = none 0 (omega arith) in
    let s : Stepped tables progress x d = followed tables place progress x d (sym (plain_outcome tables place progress x plain) ∙ o) in
    record { start = s.start; was = s.was; state = s.start; steps = refl; is = ap (step_of tables s.start) (sym same) ∙ s.is }
reach_later tables place progress (x ∷ xs) (suc i) y d none here found =
    let plain : has_key_tag x ≡ false = none 0 (omega arith) in
    let rest : Reached tables (left_by (outcome tables place progress x)) (take i xs) y d = reach_later tables (place + 1) (left_by (outcome tables place progress x)) xs i y d (λ j low. none (suc j) (omega (arith, low))) here found in
    let one = left_ok (outcome tables place progress x) rest.start rest.was in
    let s : Stepped tables progress x one.0 = followed tables place progress x one.0 (sym (plain_outcome tables place progress x plain) ∙ one.1) in
    record {
      start = s.start;
      was = s.was;
      state = rest.state;
      steps = record { d = one.0; is = s.is; onward = subst (λ (m : Option State). Steps tables m (take i xs) rest.state) (sym one.2) rest.steps };
      is = rest.is;
    }

-- packets from one with a key tag, and then one more with this result
pub record FromKey (tables : TableEntries) (xs : List (List ℕ)) (y : List ℕ) (d : State × PictureSamples) : Type 0 where
  pub state : Option State
  pub steps : Steps tables None xs state
  pub is : step_of tables state y ≡ Ok d

key_first : (tables : Tables) (place : ℕ) (progress : Progress) (x : List ℕ) (xs : List (List ℕ)) (i : ℕ) (y : List ℕ) (d : State × PictureSamples) → has_key_tag x ≡ true → ((j : ℕ) → 1 ≤ j → j ≤ i → key_tag_at (x ∷ xs) j ≡ false)
    → slice_get (x ∷ xs) i ≡ Some y → slice_get (outcomes_from tables place progress (x ∷ xs)) i ≡ Some (Ok d) → FromKey tables (take i (x ∷ xs)) y d
key_first tables place progress x xs zero y d key none here found =
    let same : x ≡ y = cc in
    let o : outcome tables place progress x ≡ Ok d = cc in
    record { state = None; steps = refl; is = ap (step_of tables None) (sym same) ∙ reported_ok place (step_of tables None x) d (sym (key_outcome tables place progress x key) ∙ o) }
key_first tables place progress x xs (suc i) y d key none here found =
    let rest : Reached tables (left_by (outcome tables place progress x)) (take i xs) y d = reach_later tables (place + 1) (left_by (outcome tables place progress x)) xs i y d (λ j low. none (suc j) (omega arith) (omega (arith, low))) here found in
    let one = left_ok (outcome tables place progress x) rest.start rest.was in
    let first : step_of tables None x ≡ Ok one.0 = reported_ok place (step_of tables None x) one.0 (sym (key_outcome tables place progress x key) ∙ one.1) in
    record {
      state = rest.state;
      steps = record { d = one.0; is = first; onward = subst (λ (m : Option State). Steps tables m (take i xs) rest.state) (sym one.2) rest.steps };
      is = rest.is;
    }

-- packets after one that was accepted, and then one more
pub record FromState (tables : TableEntries) (state : State) (xs : List (List ℕ)) (y : List ℕ) (d : State × PictureSamples) : Type 0 where
  pub last : Option State
  pub steps : Steps tables (Some state) xs last
  pub is : step_of tables last y ≡ Ok d

same_start : (start : Option State) (state : State) (progress : Progress) → progress ≡ Ok start → progress ≡ Ok (Some state) → start ≡ Some state
same_start start state progress e f = cc

none_start : (start : Option State) → ◌≡◌ {A = Progress} (Ok None) (Ok start) → None ≡ start
none_start start e = cc

state_first : (tables : Tables) (place : ℕ) (progress : Progress) (x : List ℕ) (xs : List (List ℕ)) (i : ℕ) (y : List ℕ) (e d : State × PictureSamples) → ((j : ℕ) → j ≤ i → key_tag_at xs j ≡ false)
    → slice_get xs i ≡ Some y → outcome tables place progress x ≡ Ok e → slice_get (outcomes_from tables (place + 1) (left_by (outcome tables place progress x)) xs) i ≡ Some (Ok d) → FromState tables e.0 (take i xs) y d
state_first tables place progress x xs i y e d none here was found =
    let rest : Reached tables (left_by (outcome tables place progress x)) (take i xs) y d = reach_later tables (place + 1) (left_by (outcome tables place progress x)) xs i y d none here found in
    let left : left_by (outcome tables place progress x) ≡ Ok (Some e.0) = ap left_by was in
    let same : rest.start ≡ Some e.0 = same_start rest.start e.0 (left_by (outcome tables place progress x)) rest.was left in
    record { last = rest.state; steps = subst (λ (m : Option State). Steps tables m (take i xs) rest.state) same rest.steps; is = rest.is }

-- ---- the same in a whole stream

-- the outcomes of later packets
pub record Dropped (tables : Tables) (from : ℕ) (before : Progress) (xs : List (List ℕ)) (k : ℕ) : Type 0 where
  pub place : ℕ
  pub progress : Progress
  pub each : (i : ℕ) → slice_get (outcomes_from tables place progress (drop k xs)) i ≡ slice_get (outcomes_from tables from before xs) (k + i)

pub dropped_outcomes : (tables : Tables) (from : ℕ) (before : Progress) (xs : List (List ℕ)) (k : ℕ) → Dropped tables from before xs k
dropped_outcomes tables from before xs zero = record { place = from; progress = before; each = λ i. ap (λ (n : ℕ). slice_get (outcomes_from tables from before xs) n) (sym (zero-add i)) }
dropped_outcomes tables from before [] (suc k) = record { place = from; progress = before; each = λ i. refl }
dropped_outcomes tables from before (x ∷ xs) (suc k) =
    let rest = dropped_outcomes tables (from + 1) (left_by (outcome tables from before x)) xs k in
    record {
      place = rest.place;
      progress = rest.progress;
      each = λ i. let moved : suc (k + i) ≡ suc k + i = omega arith in rest.each i ∙ ap (λ (n : ℕ). slice_get (outcomes_from tables from before (x ∷ xs)) n) moved;
    }

pub get_dropped : (xs : List (List ℕ)) (k i : ℕ) → slice_get (drop k xs) i ≡ slice_get xs (k + i)
get_dropped xs zero i = ap (λ (n : ℕ). slice_get xs n) (sym (zero-add i))
get_dropped [] (suc k) i = refl
get_dropped (x ∷ xs) (suc k) i = let moved : suc (k + i) ≡ suc k + i = omega arith in get_dropped xs k i ∙ ap (λ (n : ℕ). slice_get (x ∷ xs) n) moved

key_dropped : (xs : List (List ℕ)) (k i : ℕ) → key_tag_at (drop k xs) i ≡ key_tag_at xs (k + i)
key_dropped xs k i = ap (λ (x : Option (List ℕ)). option_map_or has_key_tag x false) (get_dropped xs k i)

-- from the last key packet at an index or before it
key_list : (tables : Tables) (place : ℕ) (progress : Progress) (zs : List (List ℕ)) (i : ℕ) (y : List ℕ) (d : State × PictureSamples) → key_tag_at zs 0 ≡ true → ((j : ℕ) → 1 ≤ j → j ≤ i → key_tag_at zs j ≡ false)
    → slice_get zs i ≡ Some y → slice_get (outcomes_from tables place progress zs) i ≡ Some (Ok d) → FromKey tables (take i zs) y d
key_list tables place progress [] i y d key none here found = cc
key_list tables place progress (z ∷ zs) i y d key none here found = key_first tables place progress z zs i y d key none here found

pub from_key : (tables : Tables) (xs : List (List ℕ)) (k p : ℕ) (y : List ℕ) (d : State × PictureSamples) → k ≤ p → key_tag_at xs k ≡ true → ((j : ℕ) → k < j → j ≤ p → key_tag_at xs j ≡ false)
    → slice_get xs p ≡ Some y → slice_get (outcomes tables xs) p ≡ Some (Ok d) → FromKey tables (take (p - k) (drop k xs)) y d
from_key tables xs k p y d low key none here found =
    let whole : k + (p - k) ≡ p = omega arith in
    let first : k + 0 ≡ k = omega arith in
    let later : Dropped tables 0 (Ok None) xs k = dropped_outcomes tables 0 (Ok None) xs k in
    key_list tables later.place later.progress (drop k xs) (p - k) y d
    (key_dropped xs k 0 ∙ ap (key_tag_at xs) first ∙ key)
    (λ j some within. key_dropped xs k j ∙ none (k + j) (omega (arith, some)) (omega (arith, within)))
    (get_dropped xs k (p - k) ∙ ap (λ (n : ℕ). slice_get xs n) whole ∙ here)
    (later.each (p - k) ∙ ap (λ (n : ℕ). slice_get (outcomes tables xs) n) whole ∙ found)

-- from an earlier packet with no key tag after it
state_list : (tables : Tables) (place : ℕ) (progress : Progress) (zs : List (List ℕ)) (i : ℕ) (y : List ℕ) (e d : State × PictureSamples) → ((j : ℕ) → 1 ≤ j → j ≤ suc i → key_tag_at zs j ≡ false)
    → slice_get zs (suc i) ≡ Some y → slice_get (outcomes_from tables place progress zs) 0 ≡ Some (Ok e) → slice_get (outcomes_from tables place progress zs) (suc i) ≡ Some (Ok d) → FromState tables e.0 (take i (drop 1 zs)) y d
state_list tables place progress [] i y e d none here was found = cc
state_list tables place progress (z ∷ zs) i y e d none here was found =
    let first : outcome tables place progress z ≡ Ok e = cc in
    state_first tables place progress z zs i y e d (λ j low. none (suc j) (omega arith) (omega (arith, low))) here first found

drop_one : (xs : List (List ℕ)) (q : ℕ) → drop 1 (drop q xs) ≡ drop (suc q) xs
drop_one [] zero = refl
drop_one [] (suc q) = refl
drop_one (x ∷ xs) zero = refl
drop_one (x ∷ xs) (suc q) = drop_one xs q

pub from_state : (tables : Tables) (xs : List (List ℕ)) (q p : ℕ) (y : List ℕ) (e d : State × PictureSamples) → q < p → ((j : ℕ) → q < j → j ≤ p → key_tag_at xs j ≡ false)
    → slice_get xs p ≡ Some y → slice_get (outcomes tables xs) q ≡ Some (Ok e) → slice_get (outcomes tables xs) p ≡ Some (Ok d) → FromState tables e.0 (take (p - suc q) (drop (suc q) xs)) y d
from_state tables xs q p y e d less none here was found =
    let whole : q + suc (p - suc q) ≡ p = omega arith in
    let first : q + 0 ≡ q = omega arith in
    let later : Dropped tables 0 (Ok None) xs q = dropped_outcomes tables 0 (Ok None) xs q in
    let reached : FromState tables e.0 (take (p - suc q) (drop 1 (drop q xs))) y d =
    state_list tables later.place later.progress (drop q xs) (p - suc q) y e d
    (λ j some within. key_dropped xs q j ∙ none (q + j) (omega (arith, some)) (omega (arith, within)))
    (get_dropped xs q (suc (p - suc q)) ∙ ap (λ (n : ℕ). slice_get xs n) whole ∙ here)
    (later.each 0 ∙ ap (λ (n : ℕ). slice_get (outcomes tables xs) n) first ∙ was)
    (later.each (suc (p - suc q)) ∙ ap (λ (n : ℕ). slice_get (outcomes tables xs) n) whole ∙ found) in
    subst (λ (zs : List (List ℕ)). FromState tables e.0 (take (p - suc q) zs) y d) (drop_one xs q) reached

-- ---- a stream with no key tag is refused at its first packet

pub never_reached : (tables : Tables) (xs : List (List ℕ)) (p : ℕ) (y : List ℕ) (d : State × PictureSamples) → ((j : ℕ) → j ≤ p → key_tag_at xs j ≡ false) → slice_get xs p ≡ Some y → slice_get (outcomes tables xs) p ≡ Some (Ok d) → ⊥
never_reached tables [] p y d none here found = cc
never_reached tables (x ∷ xs) zero y d none here found =
    let r = reach_later tables 0 (Ok None) (x ∷ xs) 0 y d none here found in
    let same : x ≡ y = cc in
    let plain : has_key_tag y ≡ false = ap has_key_tag (sym same) ∙ none 0 (omega arith) in
    let start : None ≡ r.start = none_start r.start r.was in
    let from : None ≡ r.state = start ∙ r.steps in
    needs_state tables y d plain (ap (λ (s : Option State). step_of tables s y) from ∙ r.is)
never_reached tables (x ∷ xs) (suc p) y d none here found =
    let r = reach_later tables 0 (Ok None) (x ∷ xs) (suc p) y d none here found in
    let plain : has_key_tag x ≡ false = none 0 (omega arith) in
    let start : None ≡ r.start = none_start r.start r.was in
    needs_state tables x r.steps.d plain (ap (λ (s : Option State). step_of tables s x) start ∙ r.steps.is)
