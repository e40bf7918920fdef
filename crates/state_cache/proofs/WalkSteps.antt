-- A walk: one step more, how it ends, and what it changes.
use Rattle.std.proofs.Common.{◌≡◌, ℕ, zero, suc, ◌+◌, ◌<◌, ◌≤◌, ◌⊎◌, inl, inr, Bool, true, false, ◌&&◌, List, [], ◌∷◌, Option, Some, None, slice_get, slice_set, refl, sym, ap, subst, ◌∙◌, arith}
use Rattle.std.specs.Prelude.{min}
use Rattle.vp8_tables.specs.Tables.{TableEntries}
use Rattle.packet_edits.specs.Marks.{StoreValue, unmarked_at}
use Rattle.state_cache.specs.declared.capacity.Capacity.{Capacity}
use Rattle.state_cache.specs.declared.outcomes.Kept.{Kept}
use Rattle.state_cache.specs.Costs.{most_steps}
use Rattle.state_cache.specs.Reaching.{Begins, CacheValue, IsNext, OthersDrop, at_key, at_start, following, passed_marks, view_of}
use Rattle.state_cache.specs.Views.{Drops, IsCoherent, MarkedPacket, View, is_cut, is_usable, key_at, marked_packets}
use Rattle.state_cache.specs.WalkLaws.{IsAmong, NextIsUnique, WalksStepInOrder}
use Rattle.state_cache.specs.Walks.{Ends, IsIteration, IsWalk, IsWalkStep, Walks, arrives, is_refused}
use Rattle.state_cache.specs.ProofsOnly.{Advances}
use Rattle.state_cache.proofs.Known.{drops_same}
use Rattle.state_cache.proofs.Runs.{up_to_or_behind}

-- a walk from a first index so far
pub record Walking (tables : TableEntries) (source : ℕ) (old : StoreValue) (before : CacheValue) (place : ℕ) (now : StoreValue) (cache : CacheValue) (next : ℕ) : Type 0 where
  pub first : ℕ
  pub is_first : IsNext (marked_packets old) (view_of source before) place first
  pub stepped : List ℕ
  pub walk : Walks tables source old before place first stepped now cache next

pub walking_begins : (tables : TableEntries) (source : ℕ) (old : StoreValue) (before : CacheValue) (place next : ℕ) → IsNext (marked_packets old) (view_of source before) place next → Walking tables source old before place old before next
walking_begins tables source old before place next n = record { first = next; is_first = n; stepped = []; walk = (refl, refl, refl) }

pub walking_more : (tables : TableEntries) (source : ℕ) (old now new : StoreValue) (before cache after : CacheValue) (place next further : ℕ) → Walking tables source old before place now cache next → IsWalkStep tables source now cache place next new after further → Walking tables source old before place new after further
walking_more tables source old now new before cache after place next further w s = record { first = w.first; is_first = w.is_first; stepped = next ∷ w.stepped; walk = (now, (cache, (w.walk, s))) }

-- a cached step, from the contract of `iterate`
pub step_is : (tables : TableEntries) (source : ℕ) (old new : StoreValue) (before after : CacheValue) (place next further : ℕ) (joined : Bool) → IsIteration source old before next joined new after → after.decoded ≡ min (before.decoded + 1) most_steps → after.capacity ≡ before.capacity
    → next ≤ place → Advances tables source old before place next new after further → (joined ≡ false → further ≡ next + 1) → IsCoherent tables (marked_packets new) (view_of source after) → IsWalkStep tables source old before place next new after further
step_is tables source old new before after place next further joined iterated counted capacity low a onward coherent = record {
  joined = joined;
  iterated = iterated;
  counted = counted;
  capacity = capacity;
  number = a.number;
  low = low;
  later = a.following;
  onward = onward;
  continues = a.first;
  coherent = coherent;
}

-- a walk that has reached its index
pub walk_arrives : (tables : TableEntries) (source : ℕ) (old now : StoreValue) (before cache : CacheValue) (place next : ℕ) (is_ok : Bool) → Walking tables source old before place now cache next → place < next → IsWalk tables source old before place is_ok now cache
walk_arrives tables source old now before cache place next is_ok w up = record {
  first = w.first;
  is_first = w.is_first;
  stepped = w.stepped;
  next = next;
  cache = cache;
  walk = w.walk;
  ends = arrives up refl;
}

counted_only : (cache after : CacheValue) (decoded : ℕ) → after.entries ≡ cache.entries → after.capacity ≡ cache.capacity → after.decoded ≡ decoded → after ≡ record cache { decoded = decoded }
counted_only cache after decoded entries capacity steps =
    ap (λ es. record after { entries = es }) entries
    ∙ ap (λ (c : Capacity). record after { entries = cache.entries; capacity = c }) capacity
    ∙ ap (λ (n : ℕ). record cache { decoded = n }) steps

-- a walk that ends with a step that is refused
pub walk_refused : (tables : TableEntries) (source : ℕ) (old now new : StoreValue) (before cache after : CacheValue) (place next : ℕ) → Walking tables source old before place now cache next → next ≤ place → new ≡ now → after.entries ≡ cache.entries → after.capacity ≡ cache.capacity
    → after.decoded ≡ min (cache.decoded + 1) most_steps → IsWalk tables source old before place false new after
walk_refused tables source old now new before cache after place next w low same entries capacity counted = record {
  first = w.first;
  is_first = w.is_first;
  stepped = w.stepped;
  next = next;
  cache = cache;
  walk = subst (λ (s : StoreValue). Walks tables source old before place w.first w.stepped s cache next) (sym same) w.walk;
  ends = is_refused refl low (counted_only cache after (min (cache.decoded + 1) most_steps) entries capacity counted);
}

pub drops_more : (o p q : Option Kept) → Drops o p → Drops p q → Drops o q
drops_more None p q d e = tt
drops_more (Some k) p q d e = subst (λ (x : Option Kept). Drops x q) d e

others_so_far : (tables : TableEntries) (source : ℕ) (old now : StoreValue) (before cache : CacheValue) (place first next : ℕ) (stepped : List ℕ) → Walks tables source old before place first stepped now cache next → OthersDrop source before cache
others_so_far tables source old now before cache place first next [] w other id apart = subst (λ (c : CacheValue). Drops (view_of other c id) (view_of other before id)) (sym w.1) (drops_same (view_of other before id))
others_so_far tables source old now before cache place first next (m ∷ earlier) w other id apart =
    drops_more (view_of other cache id) (view_of other w.1.0 id) (view_of other before id) (w.1.1.1.iterated.other_sources other id apart)
    (others_so_far tables source old w.0 before w.1.0 place first m earlier w.1.1.0 other id apart)

others_at_end : (place next : ℕ) (cache after : CacheValue) (is_ok : Bool) (other id : ℕ) → Ends place next cache is_ok after → Drops (view_of other after id) (view_of other cache id)
others_at_end place next cache after is_ok other id (arrives up same) = subst (λ (c : CacheValue). Drops (view_of other c id) (view_of other cache id)) (sym same) (drops_same (view_of other cache id))
others_at_end place next cache after is_ok other id (is_refused not_ok low same) = subst (λ (c : CacheValue). Drops (view_of other c id) (view_of other cache id)) (sym same) (drops_same (view_of other cache id))

-- a walk changes the outcomes of other sources by dropping some
pub walk_others : (tables : TableEntries) (source : ℕ) (old new : StoreValue) (before after : CacheValue) (place : ℕ) (is_ok : Bool) → IsWalk tables source old before place is_ok new after → OthersDrop source before after
walk_others tables source old new before after place is_ok w other id apart =
    drops_more (view_of other after id) (view_of other w.cache id) (view_of other before id) (others_at_end place w.next w.cache after is_ok other id w.ends)
    (others_so_far tables source old new before w.cache place w.first w.next w.stepped w.walk other id apart)

-- other marks are unchanged
other_mark : (ms : List Bool) (i p : ℕ) (m : Bool) → (p ≡ i → ⊥) → slice_get (slice_set ms i m) p ≡ slice_get ms p
other_mark [] i p m other = refl
other_mark (x ∷ ms) zero zero m other = absurd (other refl)
other_mark (x ∷ ms) zero (suc p) m other = refl
other_mark (x ∷ ms) (suc i) zero m other = refl
other_mark (x ∷ ms) (suc i) (suc p) m other = other_mark ms i p m (λ same. other (ap suc same))

passed_other : (cut converged joined : Bool) (ms : List Bool) (m further p : ℕ) → joined ≡ (cut && converged) → (joined ≡ false → further ≡ m + 1) → (p ≡ m → ⊥) → (p ≡ further → ⊥) → slice_get (passed_marks cut converged m ms) p ≡ slice_get ms p
passed_other false converged joined ms m further p is onward other after = refl
passed_other true true joined ms m further p is onward other after = other_mark ms m p false other
passed_other true false joined ms m further p is onward other after =
    let next : further ≡ m + 1 = onward is in
    other_mark (unmarked_at m ms) (m + 1) p true (λ same. after (same ∙ sym next)) ∙ other_mark ms m p false other

step_marks : (tables : TableEntries) (source : ℕ) (now new : StoreValue) (cache after : CacheValue) (place m further p : ℕ) → IsWalkStep tables source now cache place m new after further → (p ≡ m → ⊥) → (p ≡ further → ⊥) → slice_get new.marks p ≡ slice_get now.marks p
step_marks tables source now new cache after place m further p s other later =
    let t = s.iterated in
    ap (λ (store : StoreValue). slice_get store.marks p) t.marks
    ∙ passed_other (is_cut t.packet) t.has_converged s.joined now.marks m further p t.joined_is s.onward other later

marks_stay : (tables : TableEntries) (source : ℕ) (old new : StoreValue) (before after : CacheValue) (place first next p : ℕ) (stepped : List ℕ) → Walks tables source old before place first stepped new after next → (IsAmong p stepped → ⊥) → (p ≡ next → ⊥) → slice_get new.marks p ≡ slice_get old.marks p
marks_stay tables source old new before after place first next p [] w none other = ap (λ (store : StoreValue). slice_get store.marks p) w.0
marks_stay tables source old new before after place first next p (m ∷ earlier) w none other =
    let now = w.0 in
    let cache = w.1.0 in
    step_marks tables source now new cache after place m next p w.1.1.1 (λ same. none (inl same)) other
    ∙ marks_stay tables source old now before cache place first m p earlier w.1.1.0 (λ a. none (inr a)) (λ same. none (inl same))

first_low : (tables : TableEntries) (source : ℕ) (old new : StoreValue) (before after : CacheValue) (place first next : ℕ) (stepped : List ℕ) → Walks tables source old before place first stepped new after next → first ≤ next
first_low tables source old new before after place first next [] w = let same : next ≡ first = w.2 in omega (arith, same)
first_low tables source old new before after place first next (m ∷ earlier) w =
    let low : first ≤ m = first_low tables source old w.0 before w.1.0 place first m earlier w.1.1.0 in
    let later : m < next = w.1.1.1.later in
    omega (arith, low, later)

in_order : (tables : TableEntries) (source : ℕ) (old new : StoreValue) (before after : CacheValue) (place first next p : ℕ) (stepped : List ℕ) → Walks tables source old before place first stepped new after next → IsAmong p stepped → (first ≤ p) × (p ≤ place) × (p < next)
in_order tables source old new before after place first next p [] w a = absurd a
in_order tables source old new before after place first next p (m ∷ earlier) w (inl same) =
    let low : first ≤ m = first_low tables source old w.0 before w.1.0 place first m earlier w.1.1.0 in
    let within : m ≤ place = w.1.1.1.low in
    let later : m < next = w.1.1.1.later in
    (omega (arith, same, low), omega (arith, same, within), omega (arith, same, later))
in_order tables source old new before after place first next p (m ∷ earlier) w (inr a) =
    let rest = in_order tables source old w.0 before w.1.0 place first m p earlier w.1.1.0 a in
    let below : p < m = rest.2 in
    let later : m < next = w.1.1.1.later in
    (rest.0, rest.1, omega (arith, below, later))

pub walks_step_in_order : WalksStepInOrder
walks_step_in_order = record { in_order = in_order; marks_stay = marks_stay }

-- the first index to step is unique
not_later_begins : (xs : List MarkedPacket) (kept : View) (place n m : ℕ) → IsNext xs kept place n → n < m → m ≤ place → Begins xs kept m → ⊥
not_later_begins xs kept place n m next lt low (at_start e) = omega (arith, lt, e)
not_later_begins xs kept place n m next lt low (at_key e) = let off : key_at xs m ≡ false = next.no_key m lt low in cc
not_later_begins xs kept place n m next lt low (following u e usable) =
    let off : is_usable xs kept u ≡ false = next.greatest u (omega (arith, lt, e)) (omega (arith, low, e)) in
    cc

not_later_case : (xs : List MarkedPacket) (kept : View) (place n m : ℕ) → IsNext xs kept place n → IsNext xs kept place m → n < m → (m ≤ place) ⊎ (place < m) → ⊥
not_later_case xs kept place n m next other lt (inl low) = not_later_begins xs kept place n m next lt low other.begins
not_later_case xs kept place n m next other lt (inr up) =
    let within : m ≤ place + 1 = other.within in
    let on : is_usable xs kept place ≡ true = other.arrived up in
    let off : is_usable xs kept place ≡ false = next.greatest place (omega (arith, lt, within)) (omega arith) in
    cc

not_later : (xs : List MarkedPacket) (kept : View) (place n m : ℕ) → IsNext xs kept place n → IsNext xs kept place m → n < m → ⊥
not_later xs kept place n m next other lt = not_later_case xs kept place n m next other lt (up_to_or_behind m place)

pub next_is_unique : NextIsUnique
next_is_unique xs kept place n m next other =
    let up : n < m → ⊥ = not_later xs kept place n m next other in
    let down : m < n → ⊥ = not_later xs kept place m n other next in
    omega (arith, up, down)
