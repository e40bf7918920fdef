-- With room, each step of a walk leaves exactly one index fewer that is not settled.
use Rattle.std.proofs.Common.{◌≡◌, ℕ, zero, suc, ◌+◌, ◌<◌, ◌≤◌, ◌⊎◌, inl, inr, Bool, true, false, List, [], ◌∷◌, length, slice_set, refl, sym, ap, subst, ◌∙◌, arith}
use Rattle.vp8_tables.specs.Tables.{TableEntries}
use Rattle.packet_edits.specs.Edits.{Listing}
use Rattle.packet_edits.specs.Laws.{HasOwnIds}
use Rattle.packet_edits.specs.Marks.{StoreValue, unmarked_at}
use Rattle.state_cache.specs.Costs.{AreUnsettled, IsOneRun}
use Rattle.state_cache.specs.ProofsOnly.{Advances, IsAfterCached}
use Rattle.state_cache.specs.Reaching.{Begins, CacheValue, at_key, at_start, following, passed_marks, view_of}
use Rattle.state_cache.specs.Views.{MarkedPacket, View, cached_at, is_cut, is_usable, key_at, marked_packets}
use Rattle.state_cache.specs.WalkLaws.{HasRoomFrom, WalksSettle, ascending}
use Rattle.state_cache.specs.Walks.{IsWalkStep, Walks}
use Rattle.state_cache.proofs.Advanced.{advances_joined, advances_one}
use Rattle.state_cache.proofs.Passed.{key_passed}
use Rattle.state_cache.proofs.Reached.{cut_seen, length_seens, turn_usable}
use Rattle.state_cache.proofs.Runs.{not_true, one_run_trusted, up_to_or_behind, usable_along}
use Rattle.state_cache.proofs.Steps.{both_true, passed_at, seens_passed, usable_trusted}
use Rattle.state_cache.proofs.Trust.{trust}

-- a write keeps the number of marks
same_length : (ms : List Bool) (i : ℕ) (m : Bool) → length (slice_set ms i m) ≡ length ms
same_length [] i m = refl
same_length (x ∷ ms) zero m = refl
same_length (x ∷ ms) (suc i) m = ap suc (same_length ms i m)

as_many : (cut converged : Bool) (place : ℕ) (ms : List Bool) → length (passed_marks cut converged place ms) ≡ length ms
as_many false converged place ms = refl
as_many true true place ms = same_length ms place false
as_many true false place ms = same_length (unmarked_at place ms) (place + 1) true ∙ same_length ms place false

module _ (tables : TableEntries) (source : ℕ) (old new : StoreValue) (before after : CacheValue) (place m further : ℕ) (w : IsWalkStep tables source old before place m new after further) (r : HasRoomFrom source old before place m) where
  abbrev ys : List MarkedPacket
  ys = marked_packets new

  abbrev kept' : View
  kept' = view_of source after

  list_is : new.list ≡ old.list
  list_is = ap (λ (s : StoreValue). s.list) w.iterated.marks

  long : place < length ys
  long =
      let l = length_seens new.list.entries new.marks in
      let e : length new.list.entries ≡ length old.list.entries = ap (λ (list : Listing). length list.entries) list_is in
      let there = r.exists in
      omega (arith, l, e, there)

  seens_are : ys ≡ passed_at (is_cut w.iterated.packet) w.iterated.has_converged m (marked_packets old)
  seens_are = ap marked_packets w.iterated.marks ∙ seens_passed old.list.entries old.marks (is_cut w.iterated.packet) w.iterated.has_converged m r.is_marked

  keys : (p : ℕ) → m < p → p ≤ place → key_at ys p ≡ false
  keys p lo hi =
      ap (λ (zs : List MarkedPacket). key_at zs p) seens_are ∙ key_passed (marked_packets old) m (is_cut w.iterated.packet) w.iterated.has_converged p ∙ r.first.no_key p lo hi

  -- the index that was stepped is usable
  usable : is_usable ys kept' m ≡ true
  usable =
      let t = w.iterated in
      subst (λ (s : StoreValue). is_usable (marked_packets s) kept' m ≡ true) (sym t.marks)
      (turn_usable tables old.list.entries old.marks (view_of source before) kept' m t.packet.id (is_cut t.packet) t.has_converged t.packet t.outcome t.packet_is r.is_marked r.first.begins
      (sym (cut_seen (marked_packets old) m t.packet t.packet_is)) refl t.kept)

  -- the walk continues after a usable index
  begins_after : Begins ys kept' further → (further ≤ place) ⊎ (place < further) → (last : ℕ) × (further ≡ last + 1) × (is_usable ys kept' last ≡ true)
  begins_after (at_start e) where_is = let up = w.later in absurd (omega (arith, up, e))
  begins_after (following last e u) where_is = (last, e, u)
  begins_after (at_key k) (inl hi) = let off : key_at ys further ≡ false = keys further w.later hi in cc
  begins_after (at_key k) (inr up) = let within = w.continues.within in (place, omega (arith, up, within), w.continues.arrived up)

  last_is : (last : ℕ) × (further ≡ last + 1) × (is_usable ys kept' last ≡ true)
  last_is = begins_after w.continues.begins (up_to_or_behind further place)

  none_after : (p : ℕ) → further ≤ p → p ≤ place → IsOneRun ys m p → cached_at ys kept' p ≡ true → ⊥
  none_after p lo hi run k =
      let up = w.later in
      let l = long in
      let on : is_usable ys kept' p ≡ true = usable_along ys kept' m p (omega (arith, up, lo)) (usable_trusted ys kept' m usable) run (omega (arith, hi, l)) k in
      let off : is_usable ys kept' p ≡ false = w.continues.greatest p lo hi in
      cc

  -- it continues after the last cached index of the run
  after_cached : IsAfterCached ys kept' m place further
  after_cached =
      let last = last_is.0 in
      let e : further ≡ last + 1 = last_is.1 in
      let u : is_usable ys kept' last ≡ true = last_is.2 in
      let up = w.later in
      let within = w.continues.within in
      let l = long in
      record {
        last = last;
        next_is = e;
        from = omega (arith, up, e);
        within = omega (arith, within, e);
        one_run = one_run_trusted ys m last (omega (arith, within, e, l)) (usable_trusted ys kept' last u) (λ q x y. keys q x (omega (arith, y, within, e)));
        is_cached = (both_true (cached_at ys kept' last) (trust ys (last + 1)) u).0;
        greatest = λ p lo hi run. not_true (cached_at ys kept' p) (none_after p (omega (arith, lo, e)) hi run);
      }

  step_case : (joined : Bool) → w.joined ≡ joined → Advances tables source old before place m new after further
  step_case true on =
      advances_joined tables source old new before after place m w.joined r.exists w.low r.is_marked r.own_ids r.first w.coherent usable w.number w.capacity w.iterated further on after_cached
  step_case false off =
      subst (λ (n : ℕ). Advances tables source old before place m new after n) (sym (w.onward off))
      (advances_one tables source old new before after place m w.joined r.exists w.low r.is_marked r.own_ids r.first w.coherent usable w.number w.capacity w.iterated off)

  -- a step of a walk advances it
  pub step_advances : Advances tables source old before place m new after further
  step_advances = step_case w.joined refl

  pub room_further : HasRoomFrom source new after place further
  room_further =
      let e : length new.list.entries ≡ length old.list.entries = ap (λ (list : Listing). length list.entries) list_is in
      let marks_are : length new.marks ≡ length old.marks = ap (λ (s : StoreValue). length s.marks) w.iterated.marks ∙ as_many (is_cut w.iterated.packet) w.iterated.has_converged m old.marks in
      let there = r.exists in
      record {
        is_marked = marks_are ∙ r.is_marked ∙ sym e;
        own_ids = subst (λ (list : Listing). HasOwnIds list) (sym list_is) r.own_ids;
        exists = omega (arith, e, there);
        first = w.continues;
        room = step_advances.room r.room;
      }

  pub one_fewer : (places : List ℕ) → AreUnsettled tables (marked_packets old) (view_of source before) m place places
      → (rest : List ℕ) × (places ≡ m ∷ rest) × AreUnsettled tables (marked_packets new) (view_of source after) further place rest
  one_fewer places a = step_advances.fewer r.room places a

-- a walk so far: where it has room, and which indexes are left
record SoFarSettled (tables : TableEntries) (source : ℕ) (now : StoreValue) (cache : CacheValue) (place next : ℕ) (stepped places : List ℕ) : Type 0 where
  room : HasRoomFrom source now cache place next
  rest : List ℕ
  places_are : places ≡ ascending stepped rest
  unsettled : AreUnsettled tables (marked_packets now) (view_of source cache) next place rest

settles : (tables : TableEntries) (source : ℕ) (old new : StoreValue) (before after : CacheValue) (place first next : ℕ) (stepped places : List ℕ) → Walks tables source old before place first stepped new after next
    → HasRoomFrom source old before place first → AreUnsettled tables (marked_packets old) (view_of source before) first place places → SoFarSettled tables source new after place next stepped places
settles tables source old new before after place first next [] places w r a =
    let S : StoreValue → CacheValue → ℕ → Type 0 = λ s c n. HasRoomFrom source s c place n in
    let U : StoreValue → CacheValue → ℕ → Type 0 = λ s c n. AreUnsettled tables (marked_packets s) (view_of source c) n place places in
    record {
      room = subst (λ (s : StoreValue). S s after next) (sym w.0) (subst (λ (c : CacheValue). S old c next) (sym w.1) (subst (λ (n : ℕ). S old before n) (sym w.2) r));
      rest = places;
      places_are = refl;
      unsettled = subst (λ (s : StoreValue). U s after next) (sym w.0) (subst (λ (c : CacheValue). U old c next) (sym w.1) (subst (λ (n : ℕ). U old before n) (sym w.2) a));
    }
settles tables source old new before after place first next (m ∷ earlier) places w r a =
    let now = w.0 in
    let cache = w.1.0 in
    let step = w.1.1.1 in
    let was = settles tables source old now before cache place first m earlier places w.1.1.0 r a in
    let one = one_fewer tables source now new cache after place m next step was.room was.rest was.unsettled in
    record {
      room = room_further tables source now new cache after place m next step was.room;
      rest = one.0;
      places_are = was.places_are ∙ ap (ascending earlier) one.1;
      unsettled = one.2;
    }

in_order : (tables : TableEntries) (source : ℕ) (old new : StoreValue) (before after : CacheValue) (place first next : ℕ) (stepped places : List ℕ) → Walks tables source old before place first stepped new after next
    → HasRoomFrom source old before place first → AreUnsettled tables (marked_packets old) (view_of source before) first place places
    → (rest : List ℕ) × (places ≡ ascending stepped rest) × AreUnsettled tables (marked_packets new) (view_of source after) next place rest
in_order tables source old new before after place first next stepped places w r a =
    let s = settles tables source old new before after place first next stepped places w r a in
    (s.rest, s.places_are, s.unsettled)

pub walks_settle : (tables : TableEntries) → WalksSettle tables
walks_settle tables = record {
  one_fewer = λ source old new before after place next further places w r a. one_fewer tables source old new before after place next further w r places a;
  in_order = in_order tables;
}
