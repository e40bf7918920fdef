-- A cached step on the way to an index advances the walk.
use Rattle.std.proofs.Common.{◌≡◌, ℕ, zero, suc, ◌+◌, ◌<◌, ◌≤◌, ◌⊎◌, inl, inr, Bool, true, false, cond, ◌&&◌, List, [], ◌∷◌, Option, Some, None, option_map, is_some, length, slice_get, nat_eq, refl, sym, ap, subst, ◌∙◌, arith}
use Rattle.std.proofs.lemmas.Bool.{eqb-true}
use Rattle.vp8_tables.specs.Tables.{TableEntries}
use Rattle.packet_edits.specs.declared.entry.Entry.{Entry}
use Rattle.packet_edits.specs.Edits.{Listing}
use Rattle.packet_edits.specs.Laws.{HasOwnIds}
use Rattle.packet_edits.specs.Marks.{StoreValue}
use Rattle.state_cache.specs.declared.capacity.Capacity.{Capacity}
use Rattle.state_cache.specs.declared.outcomes.Kept.{Kept}
use Rattle.state_cache.specs.Costs.{HasRoom, IsIdOf, IsSettled, uncached_from}
use Rattle.state_cache.specs.Reaching.{CacheValue, IsNext, Converged, view_of}
use Rattle.state_cache.specs.Views.{Drops, IsCoherent, MarkedPacket, View, is_cut, is_usable, cached_at, marked_packet, marked_packets, marked_packets_of, with_cached}
use Rattle.state_cache.specs.Walks.{IsPut, IsIteration, ConvergesWithSame}
use Rattle.state_cache.specs.ProofsOnly.{Advances, IsAfterCached}
use Rattle.state_cache.proofs.Marked.{IsOwn, own_seens}
use Rattle.state_cache.proofs.Onward.{cut_marked, joined_gap, joined_next, joined_onward, passed_next, passed_onward, plain_next, plain_onward}
use Rattle.state_cache.proofs.Passed.{still_kept}
use Rattle.state_cache.proofs.Reached.{length_seens}
use Rattle.state_cache.proofs.Rooms.{one_missing, unkept_further, unkept_step}
use Rattle.state_cache.proofs.Runs.{same_or_not}
use Rattle.state_cache.proofs.Settled.{SettlesSame, first_unsettled}
use Rattle.state_cache.proofs.Steps.{both_true, passed_at, seens_passed}
use Rattle.state_cache.proofs.Trust.{trust}
use Rattle.state_cache.proofs.Unsettled.{step_fewer, step_keeps}

-- the entry of a packet of the list with marks
pub record Stood (es : List Entry) (i id : ℕ) : Type 0 where
  pub entry : Entry
  pub is : slice_get es i ≡ Some entry
  pub id_is : entry.id ≡ id

stood : (es : List Entry) (ms : List Bool) (i : ℕ) (x : MarkedPacket) → slice_get (marked_packets_of es ms) i ≡ Some x → Stood es i x.id
stood [] ms i x h = cc
stood (e ∷ es) [] zero x h = let a : marked_packet e false ≡ x = cc in record { entry = e; is = refl; id_is = ap (λ (s : MarkedPacket). s.id) a }
stood (e ∷ es) (m ∷ ms) zero x h = let a : marked_packet e m ≡ x = cc in record { entry = e; is = refl; id_is = ap (λ (s : MarkedPacket). s.id) a }
stood (e ∷ es) [] (suc i) x h = let s = stood es [] i x h in record { entry = s.entry; is = s.is; id_is = s.id_is }
stood (e ∷ es) (m ∷ ms) (suc i) x h = let s = stood es ms i x h in record { entry = s.entry; is = s.is; id_is = s.id_is }

kept_drops : (o want : Option Kept) → Drops o want → is_some o ≡ true → is_some want ≡ true
kept_drops None want d h = cc
kept_drops (Some k) want d h = ap is_some d

stand_case : (list : Listing) (kept : View) (id q place : ℕ) (new : Kept) (b : Bool) → nat_eq q id ≡ b → option_map (λ (e : Entry). e.id) (slice_get list.entries place) ≡ Some id → is_some (cond b (Some new) (kept q)) ≡ true → (is_some (kept q) ≡ true) ⊎ IsIdOf list q
stand_case list kept id q place new true e here h = inr (place, here ∙ ap (λ (n : ℕ). Some n) (sym (eqb-true q id e)))
stand_case list kept id q place new false e here h = inl h

module _ (tables : TableEntries) (source : ℕ) (old new : StoreValue) (before after : CacheValue) (place m : ℕ) (is_joined : Bool) (within : place < length old.list.entries) (low : m ≤ place) (many : length old.marks ≡ length old.list.entries) (own : HasOwnIds old.list)
    (next : IsNext (marked_packets old) (view_of source before) place m) (coherent : IsCoherent tables (marked_packets new) (view_of source after)) (usable : is_usable (marked_packets new) (view_of source after) m ≡ true) (number : before.capacity.bytes ≡ None → length before.entries ≤ length after.entries) (capacity : after.capacity ≡ before.capacity)
    (t : IsIteration source old before m is_joined new after) where
  abbrev xs : List MarkedPacket
  xs = marked_packets old

  abbrev kept : View
  kept = view_of source before

  abbrev kept' : View
  kept' = view_of source after

  abbrev ys : Bool → Bool → List MarkedPacket
  ys cut converged = passed_at cut converged m xs

  seens_are : marked_packets new ≡ ys (is_cut t.packet) t.has_converged
  seens_are = ap marked_packets t.marks ∙ seens_passed old.list.entries old.marks (is_cut t.packet) t.has_converged m many

  list_is : new.list ≡ old.list
  list_is = ap (λ (s : StoreValue). s.list) t.marks

  own_are : IsOwn xs
  own_are = own_seens old.list.next_id old.list.entries old.marks own

  long : place < length xs
  long = let l = length_seens old.list.entries old.marks in omega (arith, l, within)

  unsettled : IsSettled tables xs kept place m → ⊥
  unsettled = first_unsettled tables xs kept place m next long

  same_case : (cut converged : Bool) → is_cut t.packet ≡ cut → IsCoherent tables (ys cut converged) kept' → is_usable (ys cut converged) kept' m ≡ true → Converged converged (kept t.packet.id) t.outcome → ConvergesWithSame converged (kept t.packet.id) t.outcome
      → ((q : ℕ) → kept' q ≡ with_cached kept t.packet.id t.outcome q) → SettlesSame tables xs (ys cut converged) kept kept' m place
  same_case false converged c coh us met_is same exact = plain_onward tables xs kept kept' place m t.packet t.outcome t.packet_is own_are long low next t.kept us converged exact
  same_case true true c coh us met_is same exact = joined_onward tables xs kept kept' place m t.packet t.outcome t.packet_is own_are long low next t.kept (cut_marked xs m t.packet t.packet_is c) coh us met_is exact
  same_case true false c coh us met_is same exact = passed_onward tables xs kept kept' place m t.packet t.outcome t.packet_is own_are long low next t.kept (cut_marked xs m t.packet t.packet_is c) coh us same exact

  next_case : (cut converged : Bool) → is_cut t.packet ≡ cut → (cut && converged) ≡ false → IsCoherent tables (ys cut converged) kept' → is_usable (ys cut converged) kept' m ≡ true → IsNext (ys cut converged) kept' place (m + 1)
  next_case false converged c off coh us = plain_next tables xs kept kept' place m t.packet t.outcome t.packet_is own_are long low next t.kept us t.drops
  next_case true true c off coh us = cc
  next_case true false c off coh us = passed_next tables xs kept kept' place m t.packet t.outcome t.packet_is own_are long low next t.kept (cut_marked xs m t.packet t.packet_is c) coh us

  further_case : (cut converged : Bool) → is_cut t.packet ≡ cut → (cut && converged) ≡ true → IsCoherent tables (ys cut converged) kept' → is_usable (ys cut converged) kept' m ≡ true → (further : ℕ) → IsAfterCached (ys cut converged) kept' m place further → IsNext (ys cut converged) kept' place further
  further_case false converged c on coh us further b = cc
  further_case true false c on coh us further b = cc
  further_case true true c on coh us further b = joined_next tables xs kept kept' place m t.packet t.outcome t.packet_is own_are long low next t.kept (cut_marked xs m t.packet t.packet_is c) coh us further b

  gap_case : (cut converged : Bool) → is_cut t.packet ≡ cut → (cut && converged) ≡ true → IsCoherent tables (ys cut converged) kept' → is_usable (ys cut converged) kept' m ≡ true → (further : ℕ) → IsAfterCached (ys cut converged) kept' m place further
      → (q : ℕ) → m < q → q < further → IsSettled tables (ys cut converged) kept' place q
  gap_case false converged c on coh us further b q lo hi = cc
  gap_case true false c on coh us further b q lo hi = cc
  gap_case true true c on coh us further b q lo hi = joined_gap tables xs kept kept' place m t.packet t.outcome t.packet_is own_are long low next t.kept (cut_marked xs m t.packet t.packet_is c) coh us further b q lo hi

  coherent_there : IsCoherent tables (ys (is_cut t.packet) t.has_converged) kept'
  coherent_there = subst (λ (zs : List MarkedPacket). IsCoherent tables zs kept') seens_are coherent

  usable_there : is_usable (ys (is_cut t.packet) t.has_converged) kept' m ≡ true
  usable_there = subst (λ (zs : List MarkedPacket). is_usable zs kept' m ≡ true) seens_are usable

  entry_here : Stood old.list.entries m t.packet.id
  entry_here = stood old.list.entries old.marks m t.packet t.packet_is

  missing_is : one_missing (kept entry_here.entry.id) ≡ one_missing (kept t.packet.id)
  missing_is = ap (λ (n : ℕ). one_missing (kept n)) entry_here.id_is

  put : HasRoom source old.list before m place → IsPut source before t.packet.id t.outcome after
  put room =
      let step = unkept_step old.list.entries kept m place entry_here.entry entry_here.is low in
      let same = missing_is in
      let few = room.1 in
      t.room (record { states = omega (arith, few, step, same); bytes = λ limit is. let none : before.capacity.bytes ≡ None = room.0 in cc })

  room_further : (further : ℕ) → m < further → HasRoom source old.list before m place → HasRoom source new.list after further place
  room_further further up room =
      let p = put room in
      let fewer = unkept_further old.list.entries kept m place entry_here.entry entry_here.is low kept' further up (still_kept kept kept' t.packet.id t.outcome p.others) in
      let same = missing_is in
      let grown = p.number in
      let few = room.1 in
      let states : after.capacity.states ≡ before.capacity.states = ap (λ (c : Capacity). c.states) capacity in
      let one : length after.entries + uncached_from old.list.entries kept' further place ≤ after.capacity.states = omega (arith, few, fewer, same, grown, states) in
      (ap (λ (c : Capacity). c.bytes) capacity ∙ room.0, subst (λ (l : Listing). length after.entries + uncached_from l.entries kept' further place ≤ after.capacity.states) (sym list_is) one)

  same_settled : HasRoom source old.list before m place → SettlesSame tables xs (marked_packets new) kept kept' m place
  same_settled room =
      subst (λ (zs : List MarkedPacket). SettlesSame tables xs zs kept kept' m place) (sym seens_are)
      (same_case (is_cut t.packet) t.has_converged refl coherent_there usable_there t.converged t.converges_with_same (put room).others)

  id_here : option_map (λ (e : Entry). e.id) (slice_get old.list.entries m) ≡ Some t.packet.id
  id_here = ap (λ (o : Option Entry). option_map (λ (e : Entry). e.id) o) entry_here.is ∙ ap (λ (n : ℕ). Some n) entry_here.id_is

  kept_here : cached_at (marked_packets new) kept' m ≡ true
  kept_here = (both_true (cached_at (marked_packets new) kept' m) (trust (marked_packets new) (m + 1)) usable).0

  still_case : HasRoom source old.list before m place → (any q : ℕ) → (any ≡ source) ⊎ (any ≡ source → ⊥) → is_some (view_of any before q) ≡ true → is_some (view_of any after q) ≡ true
  still_case room any q (inl e) k =
      subst (λ (n : ℕ). is_some (view_of n after q) ≡ true) (sym e) (still_kept kept kept' t.packet.id t.outcome (put room).others q (subst (λ (n : ℕ). is_some (view_of n before q) ≡ true) e k))
  still_case room any q (inr apart) k = ap is_some ((put room).other_sources any q apart) ∙ k

  -- with room, no outcome of any source is dropped
  still_any : HasRoom source old.list before m place → (any q : ℕ) → is_some (view_of any before q) ≡ true → is_some (view_of any after q) ≡ true
  still_any room any q k = still_case room any q (same_or_not any source) k

  advances : (further : ℕ) → IsNext (marked_packets new) kept' place further → m < further → ((q : ℕ) → m < q → q < further → IsSettled tables (marked_packets new) kept' place q) → Advances tables source old before place m new after further
  advances further first up gap = record {
    first = first;
    following = up;
    number = number;
    of_packets = λ q k. stand_case old.list kept t.packet.id q m t.outcome (nat_eq q t.packet.id) refl id_here (kept_drops (kept' q) (with_cached kept t.packet.id t.outcome q) (t.drops q) k);
    room = room_further further up;
    stays = still_any;
    keeps = λ room p lo hi uns. step_keeps tables xs (marked_packets new) kept kept' m place further low up unsettled (same_settled room) gap kept_here p lo uns;
    fewer = λ room. step_fewer tables xs (marked_packets new) kept kept' m place further low up unsettled (same_settled room) gap;
  }

  -- if no runs are joined, the walk continues at the next index
  pub advances_one : is_joined ≡ false → Advances tables source old before place m new after (m + 1)
  advances_one off =
      advances (m + 1)
      (subst (λ (zs : List MarkedPacket). IsNext zs kept' place (m + 1)) (sym seens_are) (next_case (is_cut t.packet) t.has_converged refl (sym t.joined_is ∙ off) coherent_there usable_there))
      (omega arith) (λ q a b. absurd (omega (arith, a, b)))

  -- if they are, it continues after the last cached index of the run
  pub advances_joined : (further : ℕ) → is_joined ≡ true → IsAfterCached (marked_packets new) kept' m place further → Advances tables source old before place m new after further
  advances_joined further on b =
      let there : IsAfterCached (ys (is_cut t.packet) t.has_converged) kept' m place further = subst (λ (zs : List MarkedPacket). IsAfterCached zs kept' m place further) seens_are b in
      let last : further ≡ b.last + 1 = b.next_is in
      let from : m ≤ b.last = b.from in
      advances further
      (subst (λ (zs : List MarkedPacket). IsNext zs kept' place further) (sym seens_are) (further_case (is_cut t.packet) t.has_converged refl (sym t.joined_is ∙ on) coherent_there usable_there further there))
      (omega (arith, last, from))
      (λ q lo hi. subst (λ (zs : List MarkedPacket). IsSettled tables zs kept' place q) (sym seens_are) (gap_case (is_cut t.packet) t.has_converged refl (sym t.joined_is ∙ on) coherent_there usable_there further there q lo hi))
