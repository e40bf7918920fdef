-- The cache when packets return.
use Rattle.std.proofs.Common.{◌≡◌, ℕ, zero, suc, ◌+◌, ◌⊎◌, inl, inr, Bool, true, false, cond, List, [], ◌∷◌, Option, Some, None, IsSome, is_some, length, option_map, slice_get, slice_set, refl, sym, ap, subst, ◌∙◌, add-one}
use Rattle.std.specs.List.{insert, remove}
use Rattle.vp8_tables.specs.Tables.{TableEntries}
use Rattle.packet_edits.specs.declared.entry.Entry.{Entry}
use Rattle.packet_edits.specs.Edits.{Listing, showing}
use Rattle.packet_edits.specs.Laws.{IsNotAmong}
use Rattle.packet_edits.specs.Marks.{StoreValue}
use Rattle.packet_edits.specs.Returns.{AreAlikeButShown, MayReturn, exchanged, returned}
use Rattle.frame_header.specs.ShowLaws.{OnlyTheBitChanges}
use Rattle.frame_header.specs.ShowBits.{with_show_bit}
use Rattle.stream_steps.specs.Hidden.{ShowBitKeepsSteps}
use Rattle.state_cache.specs.declared.outcomes.Kept.{Kept}
use Rattle.state_cache.specs.EditLaws.{AreOfPackets, IsMarked, IsViewWithout, id_at}
use Rattle.state_cache.specs.ReturnLaws.{ReturningIsNotCached, ReturnsKeepCoherence, ReturnsKeepIds, after_bit_exchange, after_exchange, after_return}
use Rattle.state_cache.specs.Views.{Before, CoherentFrom, Fits, Follows, IsCoherent, MarkedPacket, View, entering, failed, known, leaving, marked_packet, marked_packets, marked_packets_of, unknown}
use Rattle.state_cache.proofs.Edited.{changed_coherent, inserted_coherent, inserted_long, leaving_same, less_coherent, none_fits, seens_changed, seens_inserted, set_long, showing_coherent, showing_packet}
use Rattle.state_cache.proofs.Marked.{mark_set, seens_set}
use Rattle.state_cache.proofs.Progress.{IsAmong, among_at, among_changed, among_inserted, among_same, at_among, none_out, not_out, out_or_left}

module _ (tables : TableEntries) where
  return_coherent : (store : StoreValue) (kept : View) (at : ℕ) (entry : Entry) → IsMarked store → kept entry.id ≡ None
      → IsCoherent tables (marked_packets store) kept → IsCoherent tables (marked_packets (after_return at entry store)) kept
  return_coherent store kept at e marked none f =
      let es : List Entry = store.list.entries in
      let ms : List Bool = store.marks in
      let long : length (insert ms at false) ≡ length (insert es at e) = inserted_long ms es at false e marked in
      let is : marked_packets_of (insert es at e) (slice_set (insert ms at false) (at + 1) true) ≡ mark_set (suc at) true (insert (marked_packets_of es ms) at (marked_packet e false)) =
      seens_set (insert es at e) (insert ms at false) (at + 1) true long
      ∙ ap (λ (ps : List MarkedPacket). mark_set (at + 1) true ps) (seens_inserted es ms at e false marked)
      ∙ ap (λ (n : ℕ). mark_set n true (insert (marked_packets_of es ms) at (marked_packet e false))) (add-one at) in
      subst (λ (ps : List MarkedPacket). IsCoherent tables ps kept) (sym is)
      (inserted_coherent tables (known None) (marked_packets_of es ms) at (marked_packet e false) kept (none_fits tables (marked_packet e false) kept none) f)

  exchange_coherent : (store : StoreValue) (old new : View) (at : ℕ) (entry : Entry) → IsMarked store → new entry.id ≡ None → IsViewWithout (id_at store.list.entries at) old new
      → IsCoherent tables (marked_packets store) old → IsCoherent tables (marked_packets (after_exchange at entry store)) new
  exchange_coherent store old new at e marked none without f =
      let es : List Entry = store.list.entries in
      let ms : List Bool = store.marks in
      let long : length (slice_set ms at false) ≡ length (slice_set es at e) = set_long ms at false ∙ marked ∙ sym (set_long es at e) in
      let is : marked_packets_of (slice_set es at e) (slice_set (slice_set ms at false) (at + 1) true) ≡ mark_set (suc at) true (slice_set (marked_packets_of es ms) at (marked_packet e false)) =
      seens_set (slice_set es at e) (slice_set ms at false) (at + 1) true long
      ∙ ap (λ (ps : List MarkedPacket). mark_set (at + 1) true ps) (seens_changed es ms at e false marked)
      ∙ ap (λ (n : ℕ). mark_set n true (slice_set (marked_packets_of es ms) at (marked_packet e false))) (add-one at) in
      subst (λ (ps : List MarkedPacket). CoherentFrom tables (known None) ps new) (sym is)
      (changed_coherent tables (known None) (marked_packets_of es ms) at (marked_packet e false) new (none_fits tables (marked_packet e false) new none)
      (less_coherent tables (id_at es at) (marked_packets store) old new without f))

  -- a show bit that is set back
  module _ (bits : OnlyTheBitChanges) (steps : ShowBitKeepsSteps) where
    follows_back : (b : Before) (shown : Bool) (bytes : List ℕ) (outcome : Kept) → Follows tables b (with_show_bit shown bytes) outcome → Follows tables b bytes outcome
    follows_back unknown shown bytes outcome f = tt
    follows_back (known state) shown bytes outcome f = sym (steps tables state shown bytes) ∙ f
    follows_back failed shown bytes outcome f = f

    fits_back : (b : Before) (shown : Bool) (bytes : List ℕ) (o : Option Kept) → Fits tables b (with_show_bit shown bytes) o → Fits tables b bytes o
    fits_back b shown bytes None f = tt
    fits_back b shown bytes (Some outcome) f = follows_back b shown bytes outcome f

    first_back : (b : Before) (p : MarkedPacket) (ps : List MarkedPacket) (shown : Bool) (kept : View) → CoherentFrom tables b (showing_packet shown p ∷ ps) kept → CoherentFrom tables b (p ∷ ps) kept
    first_back b p ps shown kept f =
        let before : Before = entering b (showing_packet shown p) in
        let enters : before ≡ entering b p = ap (λ (k : Bool). cond k (known None) (cond p.marked unknown b)) (bits shown p.bytes).key_tag in
        let leaves : leaving tables before (with_show_bit shown p.bytes) (kept p.id) ≡ leaving tables before p.bytes (kept p.id) = leaving_same tables bits steps before shown p.bytes (kept p.id) in
        let P : Before → Type 0 = λ w. Fits tables w p.bytes (kept p.id) × CoherentFrom tables (leaving tables w p.bytes (kept p.id)) ps kept in
        let there : P before = (fits_back before shown p.bytes (kept p.id) f.0, subst (λ (w : Before). CoherentFrom tables w ps kept) leaves f.1) in
        subst P enters there

    bit_back : (b : Before) (es : List Entry) (ms : List Bool) (at : ℕ) (shown : Bool) (entry : Entry) (kept : View) → slice_get es at ≡ Some (showing shown entry) → CoherentFrom tables b (marked_packets_of es ms) kept
        → CoherentFrom tables b (marked_packets_of (slice_set es at entry) ms) kept
    bit_back b [] ms at shown entry kept here f = cc
    bit_back b (e ∷ es) [] zero shown entry kept here f =
        let is : e ≡ showing shown entry = cc in
        first_back b (marked_packet entry false) (marked_packets_of es []) shown kept (subst (λ (x : Entry). CoherentFrom tables b (marked_packet x false ∷ marked_packets_of es []) kept) is f)
    bit_back b (e ∷ es) (m ∷ ms) zero shown entry kept here f =
        let is : e ≡ showing shown entry = cc in
        first_back b (marked_packet entry m) (marked_packets_of es ms) shown kept (subst (λ (x : Entry). CoherentFrom tables b (marked_packet x m ∷ marked_packets_of es ms) kept) is f)
    bit_back b (e ∷ es) [] (suc at) shown entry kept here f =
        (f.0, bit_back (leaving tables (entering b (marked_packet e false)) e.bytes (kept e.id)) es [] at shown entry kept here f.1)
    bit_back b (e ∷ es) (m ∷ ms) (suc at) shown entry kept here f =
        (f.0, bit_back (leaving tables (entering b (marked_packet e m)) e.bytes (kept e.id)) es ms at shown entry kept here f.1)

    bit_coherent : (store : StoreValue) (kept : View) (at : ℕ) (old entry : Entry) → slice_get store.list.entries at ≡ Some old → AreAlikeButShown old entry
        → IsCoherent tables (marked_packets store) kept → IsCoherent tables (marked_packets (after_bit_exchange at entry store)) kept
    bit_coherent store kept at old entry here alike f = by_side alike.1
      where
        by_side : (old ≡ showing alike.0 entry) ⊎ (entry ≡ showing alike.0 old) → IsCoherent tables (marked_packets (after_bit_exchange at entry store)) kept
        by_side (inl is) = bit_back (known None) store.list.entries store.marks at alike.0 entry kept (here ∙ ap Some is) f
        by_side (inr is) =
            subst (λ (x : Entry). IsCoherent tables (marked_packets (after_bit_exchange at x store)) kept) (sym is)
            (showing_coherent tables bits steps (known None) store.list.entries store.marks at alike.0 old kept here f)

    pub returns_coherent : ReturnsKeepCoherence tables
    returns_coherent = record { returns = return_coherent; exchanges = exchange_coherent; show_bits = bit_coherent }

-- the ids of cached outcomes
return_ids : (list : Listing) (kept : View) (at : ℕ) (entry : Entry) → AreOfPackets list kept → AreOfPackets (returned at entry list) kept
return_ids list kept at e s id some =
    let there = s id some in
    at_among (insert list.entries at e) id (among_inserted list.entries at e id (among_at list.entries there.0 id there.1))

exchanged_ids : (list : Listing) (old new : View) (at : ℕ) (e : Entry) (o : Option Entry) → slice_get list.entries at ≡ o → IsViewWithout (option_map (λ (e : Entry). e.id) o) old new → AreOfPackets list old → AreOfPackets (exchanged at e list) new
exchanged_ids list old new at e None h without s id some =
    let there = s id (ap is_some (sym (without id)) ∙ some) in
    subst (λ (es : List Entry). (place : ℕ) × (option_map (λ (e : Entry). e.id) (slice_get es place) ≡ Some id)) (sym (nothing list.entries at e h)) there
  where
    nothing : (es : List Entry) (i : ℕ) (x : Entry) → slice_get es i ≡ None → slice_set es i x ≡ es
    nothing [] i x h = refl
    nothing (y ∷ es) zero x h = cc
    nothing (y ∷ es) (suc i) x h = ap (λ (ys : List Entry). y ∷ ys) (nothing es i x h)
exchanged_ids list old new at e (Some y) h without s id some =
    let other : id ≡ y.id → ⊥ = not_out id new y.id without.dropped some in
    let there = s id (ap is_some (sym (without.others id other)) ∙ some) in
    at_among (slice_set list.entries at e) id (among_changed list.entries at e y id h other (among_at list.entries there.0 id there.1))

bit_ids : (list : Listing) (kept : View) (at : ℕ) (old entry : Entry) → slice_get list.entries at ≡ Some old → entry.id ≡ old.id → AreOfPackets list kept → AreOfPackets (exchanged at entry list) kept
bit_ids list kept at old e here same s id some =
    let there = s id some in
    at_among (slice_set list.entries at e) id (among_same list.entries at e old id here same (among_at list.entries there.0 id there.1))

pub return_ids_kept : ReturnsKeepIds
return_ids_kept = record { returns = return_ids; exchanges = λ list old new at e without s. exchanged_ids list old new at e (slice_get list.entries at) refl without s; show_bits = bit_ids }

-- a packet that returns is not among those of the list
not_both : (id : ℕ) (es : List Entry) → IsNotAmong id es → IsAmong id es → ⊥
not_both id [] away a = a
not_both id (e ∷ es) away (inl is) = away.0 is
not_both id (e ∷ es) away (inr a) = not_both id es away.1 a

none_if : (o : Option Kept) → (IsSome o → ⊥) → o ≡ None
none_if None h = refl
none_if (Some outcome) h = absurd (h refl)

out_of : (list : Listing) (kept : View) (entry : Entry) → MayReturn entry list.next_id list.entries → AreOfPackets list kept → kept entry.id ≡ None
out_of list kept e may s = none_if (kept e.id) (λ some. let there = s e.id some in not_both e.id list.entries may.away (among_at list.entries there.0 e.id there.1))

left_of : (list : Listing) (old new : View) (at : ℕ) (e : Entry) (o : Option Entry) → slice_get list.entries at ≡ o → MayReturn e list.next_id (remove list.entries at) → IsViewWithout (option_map (λ (e : Entry). e.id) o) old new → AreOfPackets list old → IsSome (new e.id) → ⊥
left_of list old new at e None h may without s some =
    let there = s e.id (ap is_some (sym (without e.id)) ∙ some) in
    not_both e.id (remove list.entries at) may.away (none_out list.entries at e.id h (among_at list.entries there.0 e.id there.1))
left_of list old new at e (Some y) h may without s some =
    let other : e.id ≡ y.id → ⊥ = not_out e.id new y.id without.dropped some in
    let there = s e.id (ap is_some (sym (without.others e.id other)) ∙ some) in
    by_place (out_or_left list.entries at y e.id h (among_at list.entries there.0 e.id there.1)) other
  where
    by_place : (e.id ≡ y.id) ⊎ IsAmong e.id (remove list.entries at) → (e.id ≡ y.id → ⊥) → ⊥
    by_place (inl same) other = other same
    by_place (inr a) other = not_both e.id (remove list.entries at) may.away a

pub returning_not_cached : ReturningIsNotCached
returning_not_cached = record {
  returns = out_of;
  exchanges = λ list old new at e may without s. none_if (new e.id) (left_of list old new at e (slice_get list.entries at) refl may without s);
}
