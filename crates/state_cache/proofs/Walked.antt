-- A walk so far, and its cost in the end.
use Rattle.std.proofs.Common.{◌≡◌, ℕ, zero, suc, ◌+◌, ◌<◌, ◌≤◌, ◌⊎◌, inl, inr, Bool, true, false, List, [], ◌∷◌, Option, Some, None, is_some, length, slice_get, refl, sym, ap, subst, ◌∙◌, arith}
use Rattle.std.specs.Prelude.{IsSome, min}
use Rattle.std.specs.Option.{option_map_or}
use Rattle.vp8_tables.specs.Tables.{TableEntries}
use Rattle.packet_edits.specs.declared.entry.Entry.{Entry}
use Rattle.packet_edits.specs.Edits.{Listing}
use Rattle.packet_edits.specs.Marks.{StoreValue}
use Rattle.state_cache.specs.Bytes.{IsWithinBytes}
use Rattle.state_cache.specs.declared.capacity.Capacity.{Capacity}
use Rattle.state_cache.specs.declared.outcomes.Kept.{Kept}
use Rattle.state_cache.specs.declared.outcomes.PacketKey.{PacketKey}
use Rattle.state_cache.specs.Costs.{AreStepped, AreUnsettled, Costs, HasRoom, IsIdOf, IsSettled, most_steps}
use Rattle.state_cache.specs.Reaching.{CacheValue, IsNext, view_of}
use Rattle.state_cache.specs.Views.{View, is_usable, cached_at, cached_in, marked_packets, marked_packets_of}
use Rattle.state_cache.specs.ProofsOnly.{Advances}
use Rattle.state_cache.proofs.Reached.{beyond}
use Rattle.state_cache.proofs.Unsettled.{none_left, some_left}

-- the indexes that are not settled yet, and the number of steps counted on the way
pub record Left (tables : TableEntries) (source : ℕ) (now : StoreValue) (cache : CacheValue) (place next decoded places : ℕ) : Type 0 where
  pub rest : List ℕ
  pub done : ℕ
  pub all : done + length rest ≡ places
  pub counted : cache.decoded ≡ min (decoded + done) most_steps
  pub unsettled : AreUnsettled tables (marked_packets now) (view_of source cache) next place rest

-- the facts about a walk to `place` that continues at `next`
pub record SoFar (tables : TableEntries) (source : ℕ) (old : StoreValue) (before : CacheValue) (place : ℕ) (now : StoreValue) (cache : CacheValue) (next : ℕ) : Type 0 where
  pub first : ℕ
  pub is_first : IsNext (marked_packets old) (view_of source before) place first
  pub small : cache.decoded ≤ most_steps
  pub steps : cache.decoded + first ≤ before.decoded + next
  pub rises : before.decoded ≤ cache.decoded
  pub free : is_usable (marked_packets old) (view_of source before) place ≡ true → (cache ≡ before) × (now ≡ old) × (place + 1 ≤ next)
  pub number : before.capacity.bytes ≡ None → length before.entries ≤ length cache.entries
  pub capacity : cache.capacity ≡ before.capacity
  pub of_packets : (id : ℕ) → IsSome (view_of source cache id) → IsSome (view_of source before id) ⊎ IsIdOf old.list id
  pub room : HasRoom source old.list before first place → HasRoom source now.list cache next place
  pub stays : HasRoom source old.list before first place → (any id : ℕ) → IsSome (view_of any before id) → IsSome (view_of any cache id)
  pub keeps : HasRoom source old.list before first place → (p : ℕ) → first ≤ p → p ≤ place → (IsSettled tables (marked_packets old) (view_of source before) place p → ⊥)
      → (cached_at (marked_packets now) (view_of source cache) p ≡ true) ⊎ ((next ≤ p) × (IsSettled tables (marked_packets now) (view_of source cache) place p → ⊥))
  pub converges : HasRoom source old.list before first place → (places : List ℕ) → AreUnsettled tables (marked_packets old) (view_of source before) first place places → Left tables source now cache place next before.decoded (length places)

-- a walk that begins
pub walk_begins : (tables : TableEntries) (source : ℕ) (old : StoreValue) (before : CacheValue) (place next : ℕ) → IsNext (marked_packets old) (view_of source before) place next → before.decoded ≤ most_steps → SoFar tables source old before place old before next
walk_begins tables source old before place next n small = record {
  first = next;
  is_first = n;
  small = small;
  steps = omega arith;
  rises = omega arith;
  free = λ u. (refl, refl, beyond (marked_packets old) (view_of source before) place next place n (omega arith) u);
  number = λ none. omega arith;
  capacity = refl;
  of_packets = λ id k. inl k;
  room = λ r. r;
  stays = λ r any id k. k;
  keeps = λ r p lo hi uns. inr (lo, uns);
  converges = λ r places a. record { rest = places; done = 0; all = omega arith; counted = omega (arith, small); unsettled = a };
}

-- whether an index is cached does not depend on marks
kept_entry : (es : List Entry) (ms : List Bool) (kept : View) (p : ℕ) → cached_at (marked_packets_of es ms) kept p ≡ option_map_or (λ (e : Entry). is_some (kept e.id)) (slice_get es p) false
kept_entry [] ms kept p = refl
kept_entry (e ∷ es) [] kept zero = refl
kept_entry (e ∷ es) (m ∷ ms) kept zero = refl
kept_entry (e ∷ es) [] kept (suc p) = kept_entry es [] kept p
kept_entry (e ∷ es) (m ∷ ms) kept (suc p) = kept_entry es ms kept p

still_case : (kept kept' : View) (o : Option Entry) → ((q : ℕ) → is_some (kept q) ≡ true → is_some (kept' q) ≡ true)
    → option_map_or (λ (e : Entry). is_some (kept e.id)) o false ≡ true → option_map_or (λ (e : Entry). is_some (kept' e.id)) o false ≡ true
still_case kept kept' None still h = h
still_case kept kept' (Some e) still h = still e.id h

still_kept_at : (now new : StoreValue) (kept kept' : View) (p : ℕ) → new.list ≡ now.list → ((q : ℕ) → is_some (kept q) ≡ true → is_some (kept' q) ≡ true) → cached_at (marked_packets now) kept p ≡ true → cached_at (marked_packets new) kept' p ≡ true
still_kept_at now new kept kept' p e still h =
    kept_entry new.list.entries new.marks kept' p
    ∙ ap (λ (l : Listing). option_map_or (λ (e : Entry). is_some (kept' e.id)) (slice_get l.entries p) false) e
    ∙ still_case kept kept' (slice_get now.list.entries p) still (sym (kept_entry now.list.entries now.marks kept p) ∙ h)

module _ (tables : TableEntries) (source : ℕ) (old now : StoreValue) (before cache : CacheValue) (place next : ℕ) (s : SoFar tables source old before place now cache next) (low : next ≤ place) (listed : now.list ≡ old.list) where
  module _ (new : StoreValue) (after : CacheValue) (further : ℕ) (a : Advances tables source now cache place next new after further) (counted : after.decoded ≡ min (cache.decoded + 1) most_steps) (capacity : after.capacity ≡ cache.capacity) (same : new.list ≡ now.list) where
    stand_more : (id : ℕ) → IsSome (view_of source cache id) ⊎ IsIdOf now.list id → IsSome (view_of source before id) ⊎ IsIdOf old.list id
    stand_more id (inl k) = s.of_packets id k
    stand_more id (inr stood) = inr (subst (λ (l : Listing). IsIdOf l id) listed stood)

    keeps_more : HasRoom source old.list before s.first place → (p : ℕ) → p ≤ place → (cached_at (marked_packets now) (view_of source cache) p ≡ true) ⊎ ((next ≤ p) × (IsSettled tables (marked_packets now) (view_of source cache) place p → ⊥))
        → (cached_at (marked_packets new) (view_of source after) p ≡ true) ⊎ ((further ≤ p) × (IsSettled tables (marked_packets new) (view_of source after) place p → ⊥))
    keeps_more r p hi (inl k) = inl (still_kept_at now new (view_of source cache) (view_of source after) p same (a.stays (s.room r) source) k)
    keeps_more r p hi (inr rest) = a.keeps (s.room r) p rest.0 hi rest.1

    meets_more : HasRoom source old.list before s.first place → (places : List ℕ) → Left tables source now cache place next before.decoded (length places) → Left tables source new after place further before.decoded (length places)
    meets_more r places l =
        let one = a.fewer (s.room r) l.rest l.unsettled in
        let long : length l.rest ≡ length one.0 + 1 = ap length one.1 ∙ omega arith in
        let all = l.all in
        let was = l.counted in
        record {
          rest = one.0;
          done = l.done + 1;
          all = omega (arith, all, long);
          counted = omega (arith, counted, was);
          unsettled = one.2;
        }

    -- one more step
    pub walk_more : SoFar tables source old before place new after further
    walk_more =
        let up : next < further = a.following in
        let was = s.steps in
        let rose = s.rises in
        let small = s.small in
        record {
          first = s.first;
          is_first = s.is_first;
          small = omega (arith, counted);
          steps = omega (arith, counted, was, up);
          rises = omega (arith, counted, rose, small);
          free = λ u. let far = (s.free u).2 in absurd (omega (arith, far, low));
          number = λ none. let grown = a.number (ap (λ (c : Capacity). c.bytes) s.capacity ∙ none) in let grew = s.number none in omega (arith, grown, grew);
          capacity = capacity ∙ s.capacity;
          of_packets = λ id k. stand_more id (a.of_packets id k);
          room = λ r. a.room (s.room r);
          stays = λ r any id k. a.stays (s.room r) any id (s.stays r any id k);
          keeps = λ r p lo hi uns. keeps_more r p hi (s.keeps r p lo hi uns);
          converges = λ r places u. meets_more r places (s.converges r places u);
        }

  module _ (new : StoreValue) (after : CacheValue) (unsettled : IsSettled tables (marked_packets now) (view_of source cache) place next → ⊥) (counted : after.decoded ≡ min (cache.decoded + 1) most_steps) (same : after.entries ≡ cache.entries) (capacity : after.capacity ≡ cache.capacity) (bounded : length after.entries ≤ after.capacity.states) (within : IsWithinBytes after.capacity.bytes after.entries) where
    view_is : (any : ℕ) → view_of any after ≡ view_of any cache
    view_is any = ap (λ (es : List (PacketKey × Kept)). cached_in es any) same

    refused_steps : HasRoom source old.list before s.first place → (places : List ℕ) → Left tables source now cache place next before.decoded (length places) → AreStepped before.decoded false after.decoded (length places)
    refused_steps r places l =
        let some = some_left tables (marked_packets now) (view_of source cache) next place l.rest l.unsettled low unsettled in
        let all = l.all in
        let was = l.counted in
        record { at_most = omega (arith, counted, was, all, some); exactly = λ ok. cc }

    -- a walk that ends with a refused step
    pub walk_refused : Costs tables source old before place false new after
    walk_refused =
        let was = s.steps in
        let rose = s.rises in
        let small = s.small in
        record {
          next = s.first;
          first = s.is_first;
          steps = omega (arith, counted, was, low);
          rises = omega (arith, counted, rose, small);
          free = λ u. let far = (s.free u).2 in absurd (omega (arith, far, low));
          usable = λ ok. cc;
          number = λ none. subst (λ (es : List (PacketKey × Kept)). length before.entries ≤ length es) (sym same) (s.number none);
          bounded = bounded;
          within = within;
          capacity = capacity ∙ s.capacity;
          of_packets = λ id k. s.of_packets id (subst (λ (v : View). IsSome (v id)) (view_is source) k);
          converges = λ r places u. refused_steps r places (s.converges r places u);
          stays = λ r any id k. subst (λ (v : View). IsSome (v id)) (sym (view_is any)) (s.stays r any id k);
          keeps = λ r ok. cc;
        }

module _ (tables : TableEntries) (source : ℕ) (old now : StoreValue) (before cache : CacheValue) (place next : ℕ) (s : SoFar tables source old before place now cache next) (n : IsNext (marked_packets now) (view_of source cache) place next) (up : place < next) (bounded : length cache.entries ≤ cache.capacity.states) (within : IsWithinBytes cache.capacity.bytes cache.entries) where
  reached_steps : (is_ok : Bool) (places : List ℕ) → Left tables source now cache place next before.decoded (length places) → AreStepped before.decoded is_ok cache.decoded (length places)
  reached_steps is_ok places l =
      let none : length l.rest ≡ 0 = ap length (none_left tables (marked_packets now) (view_of source cache) next place l.rest l.unsettled up) in
      let all = l.all in
      let was = l.counted in
      record { at_most = omega (arith, was, all, none); exactly = λ ok. omega (arith, was, all, none) }

  keeps_all : (p : ℕ) → p ≤ place → (cached_at (marked_packets now) (view_of source cache) p ≡ true) ⊎ ((next ≤ p) × (IsSettled tables (marked_packets now) (view_of source cache) place p → ⊥)) → cached_at (marked_packets now) (view_of source cache) p ≡ true
  keeps_all p hi (inl k) = k
  keeps_all p hi (inr rest) = let lo : next ≤ p = rest.0 in absurd (omega (arith, lo, hi, up))

  -- a walk that has reached its index
  pub walk_ends : (is_ok : Bool) → Costs tables source old before place is_ok now cache
  walk_ends is_ok =
      let was = s.steps in
      let high : next ≤ place + 1 = n.within in
      record {
        next = s.first;
        first = s.is_first;
        steps = omega (arith, was, high);
        rises = s.rises;
        free = λ u. ((s.free u).0, (s.free u).1);
        usable = λ ok. n.arrived up;
        number = s.number;
        bounded = bounded;
        within = within;
        capacity = s.capacity;
        of_packets = s.of_packets;
        converges = λ r places u. reached_steps is_ok places (s.converges r places u);
        stays = s.stays;
        keeps = λ r ok p lo hi uns. keeps_all p hi (s.keeps r p lo hi uns);
      }
