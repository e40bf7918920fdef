-- Outcomes are cached only for packets of the list, after every edit.
use Rattle.std.proofs.Common.{◌≡◌, ℕ, Bool, zero, suc, ◌<◌, ◌≤◌, ◌⊎◌, inl, inr, false, List, [], ◌∷◌, ◌++◌, Option, Some, None, is_some, slice_get, slice_set, option_map, IsSome, refl, sym, ap, subst, ◌∙◌, arith}
use Rattle.std.specs.List.{insert, remove}
use Rattle.std.specs.Option.{option_map_or}
use Rattle.stream_files.specs.declared.packets.Packet.{Packet}
use Rattle.packet_times.specs.declared.durations.Duration.{Duration}
use Rattle.packet_edits.specs.declared.entry.Entry.{Entry}
use Rattle.packet_edits.specs.Edits.{Listing, deleted, inserted_for, numbered, pushed, replaced, showing, with_move, with_show_bit_at}
use Rattle.packet_edits.specs.Laws.{HasOwnIds, HaveOwnIds}
use Rattle.state_cache.specs.declared.outcomes.Kept.{Kept}
use Rattle.state_cache.specs.EditLaws.{EditsKeepIds, IsViewWithout, LaterIdsAreNotCached, NextIdIsNotCached, AreOfPackets, id_at}
use Rattle.state_cache.specs.Views.{View}

-- the id of one of these packets
abbrev pub IsAmong : ℕ → List Entry → Type 0
IsAmong id [] = ⊥
IsAmong id (e ∷ es) = (e.id ≡ id) ⊎ IsAmong id es

pub among_at : (es : List Entry) (place id : ℕ) → option_map (λ (e : Entry). e.id) (slice_get es place) ≡ Some id → IsAmong id es
among_at [] place id h = cc
among_at (e ∷ es) zero id h = let is : e.id ≡ id = cc in inl is
among_at (e ∷ es) (suc place) id h = inr (among_at es place id h)

pub at_among : (es : List Entry) (id : ℕ) → IsAmong id es → (place : ℕ) × (option_map (λ (e : Entry). e.id) (slice_get es place) ≡ Some id)
at_among [] id a = absurd a
at_among (e ∷ es) id (inl is) = (0, ap Some is)
at_among (e ∷ es) id (inr a) = let rest = at_among es id a in (suc rest.0, rest.1)

-- an inserted packet
pub among_inserted : (es : List Entry) (i : ℕ) (e : Entry) (id : ℕ) → IsAmong id es → IsAmong id (insert es i e)
among_inserted es zero e id a = inr a
among_inserted [] (suc i) e id a = absurd a
among_inserted (x ∷ es) (suc i) e id (inl is) = inl is
among_inserted (x ∷ es) (suc i) e id (inr a) = inr (among_inserted es i e id a)

put_among : (es : List Entry) (i : ℕ) (e : Entry) → IsAmong e.id (insert es i e)
put_among es zero e = inl refl
put_among [] (suc i) e = inl refl
put_among (x ∷ es) (suc i) e = inr (put_among es i e)

-- a replaced packet
pub among_changed : (es : List Entry) (i : ℕ) (e y : Entry) (id : ℕ) → slice_get es i ≡ Some y → (id ≡ y.id → ⊥) → IsAmong id es → IsAmong id (slice_set es i e)
among_changed [] i e y id h other a = absurd a
among_changed (x ∷ es) zero e y id h other (inl is) = let same : x ≡ y = cc in absurd (other (sym is ∙ ap (λ (z : Entry). z.id) same))
among_changed (x ∷ es) zero e y id h other (inr a) = inr a
among_changed (x ∷ es) (suc i) e y id h other (inl is) = inl is
among_changed (x ∷ es) (suc i) e y id h other (inr a) = inr (among_changed es i e y id h other a)

-- a packet with the same id
pub among_same : (es : List Entry) (i : ℕ) (e y : Entry) (id : ℕ) → slice_get es i ≡ Some y → e.id ≡ y.id → IsAmong id es → IsAmong id (slice_set es i e)
among_same [] i e y id h same a = absurd a
among_same (x ∷ es) zero e y id h same (inl is) = let here : x ≡ y = cc in inl (same ∙ sym (ap (λ (z : Entry). z.id) here) ∙ is)
among_same (x ∷ es) zero e y id h same (inr a) = inr a
among_same (x ∷ es) (suc i) e y id h same (inl is) = inl is
among_same (x ∷ es) (suc i) e y id h same (inr a) = inr (among_same es i e y id h same a)

-- the removed packet has the id, or one of the remaining packets
further : (id n : ℕ) (x : Entry) (es : List Entry) → (id ≡ n) ⊎ IsAmong id es → (id ≡ n) ⊎ IsAmong id (x ∷ es)
further id n x es (inl same) = inl same
further id n x es (inr a) = inr (inr a)

pub out_or_left : (es : List Entry) (i : ℕ) (y : Entry) (id : ℕ) → slice_get es i ≡ Some y → IsAmong id es → (id ≡ y.id) ⊎ IsAmong id (remove es i)
out_or_left [] i y id h a = absurd a
out_or_left (x ∷ es) zero y id h (inl is) = let same : x ≡ y = cc in inl (sym is ∙ ap (λ (z : Entry). z.id) same)
out_or_left (x ∷ es) zero y id h (inr a) = inr a
out_or_left (x ∷ es) (suc i) y id h (inl is) = inr (inl is)
out_or_left (x ∷ es) (suc i) y id h (inr a) = further id y.id x (remove es i) (out_or_left es i y id h a)

pub none_out : (es : List Entry) (i id : ℕ) → slice_get es i ≡ None → IsAmong id es → IsAmong id (remove es i)
none_out [] i id h a = absurd a
none_out (x ∷ es) zero id h a = cc
none_out (x ∷ es) (suc i) id h (inl is) = inl is
none_out (x ∷ es) (suc i) id h (inr a) = inr (none_out es i id h a)

left_alone : (es : List Entry) (i : ℕ) (y : Entry) (id : ℕ) → (id ≡ y.id → ⊥) → (id ≡ y.id) ⊎ IsAmong id (remove es i) → IsAmong id (remove es i)
left_alone es i y id other (inl same) = absurd (other same)
left_alone es i y id other (inr a) = a

put_back : (es : List Entry) (to : ℕ) (y : Entry) (id : ℕ) → (id ≡ y.id) ⊎ IsAmong id es → IsAmong id (insert es to y)
put_back es to y id (inl same) = subst (λ (n : ℕ). IsAmong n (insert es to y)) (sym same) (put_among es to y)
put_back es to y id (inr a) = among_inserted es to y id a

-- an outcome that is cached after a drop has another id, and was cached before
pub not_out : (id : ℕ) (new : View) (n : ℕ) → new n ≡ None → IsSome (new id) → id ≡ n → ⊥
not_out id new n gone some same = let none : is_some (new id) ≡ false = ap (λ (k : ℕ). is_some (new k)) same ∙ ap is_some gone in cc

-- appended packets
among_pushed : (es more : List Entry) (id : ℕ) → IsAmong id es → IsAmong id (es ++ more)
among_pushed [] more id a = absurd a
among_pushed (x ∷ es) more id (inl is) = inl is
among_pushed (x ∷ es) more id (inr a) = inr (among_pushed es more id a)

-- each edit
push_ids : (list : Listing) (kept : View) (packets : List Packet) → AreOfPackets list kept → AreOfPackets (pushed packets list) kept
push_ids list kept packets s id some =
    let there = s id some in
    at_among (list.entries ++ numbered list.usual list.next_id packets) id (among_pushed list.entries (numbered list.usual list.next_id packets) id (among_at list.entries there.0 id there.1))

insertion_ids : (list : Listing) (kept : View) (duration : Duration) (at stamp : ℕ) (bytes : List ℕ) → AreOfPackets list kept → AreOfPackets (inserted_for duration at stamp bytes list) kept
insertion_ids list kept duration at stamp bytes s id some =
    let e : Entry = record { id = list.next_id; stamp = stamp; duration = duration; bytes = bytes } in
    let there = s id some in
    at_among (insert list.entries at e) id (among_inserted list.entries at e id (among_at list.entries there.0 id there.1))

replaced_ids : (list : Listing) (old new : View) (at : ℕ) (bytes : List ℕ) (o : Option Entry) → slice_get list.entries at ≡ o → IsViewWithout (option_map (λ (e : Entry). e.id) o) old new → AreOfPackets list old
    → (id : ℕ) → IsSome (new id) → (place : ℕ) × (option_map (λ (e : Entry). e.id) (slice_get (option_map_or (λ entry. slice_set list.entries at (record entry { id = list.next_id; bytes = bytes })) o list.entries) place) ≡ Some id)
replaced_ids list old new at bytes None h without s id some = s id (ap is_some (sym (without id)) ∙ some)
replaced_ids list old new at bytes (Some y) h without s id some =
    let e : Entry = record y { id = list.next_id; bytes = bytes } in
    let other : id ≡ y.id → ⊥ = not_out id new y.id without.dropped some in
    let there = s id (ap is_some (sym (without.others id other)) ∙ some) in
    at_among (slice_set list.entries at e) id (among_changed list.entries at e y id h other (among_at list.entries there.0 id there.1))

replacement_ids : (list : Listing) (old new : View) (at : ℕ) (bytes : List ℕ) → IsViewWithout (id_at list.entries at) old new → AreOfPackets list old → AreOfPackets (replaced at bytes list) new
replacement_ids list old new at bytes without s = replaced_ids list old new at bytes (slice_get list.entries at) refl without s

deleted_ids : (list : Listing) (old new : View) (at : ℕ) (o : Option Entry) → slice_get list.entries at ≡ o → IsViewWithout (option_map (λ (e : Entry). e.id) o) old new → AreOfPackets list old → AreOfPackets (deleted at list) new
deleted_ids list old new at None h without s id some =
    let there = s id (ap is_some (sym (without id)) ∙ some) in
    at_among (remove list.entries at) id (none_out list.entries at id h (among_at list.entries there.0 id there.1))
deleted_ids list old new at (Some y) h without s id some =
    let other : id ≡ y.id → ⊥ = not_out id new y.id without.dropped some in
    let there = s id (ap is_some (sym (without.others id other)) ∙ some) in
    at_among (remove list.entries at) id (left_alone list.entries at y id other (out_or_left list.entries at y id h (among_at list.entries there.0 id there.1)))

deletion_ids : (list : Listing) (old new : View) (at : ℕ) → IsViewWithout (id_at list.entries at) old new → AreOfPackets list old → AreOfPackets (deleted at list) new
deletion_ids list old new at without s = deleted_ids list old new at (slice_get list.entries at) refl without s

moved_ids : (list : Listing) (kept : View) (from to : ℕ) (o : Option Entry) → slice_get list.entries from ≡ o → AreOfPackets list kept
    → (id : ℕ) → IsSome (kept id) → (place : ℕ) × (option_map (λ (e : Entry). e.id) (slice_get (option_map_or (λ entry. insert (remove list.entries from) to entry) o list.entries) place) ≡ Some id)
moved_ids list kept from to None h s id some = s id some
moved_ids list kept from to (Some y) h s id some =
    let there = s id some in
    at_among (insert (remove list.entries from) to y) id (put_back (remove list.entries from) to y id (out_or_left list.entries from y id h (among_at list.entries there.0 id there.1)))

move_ids : (list : Listing) (kept : View) (from to : ℕ) → AreOfPackets list kept → AreOfPackets (with_move from to list) kept
move_ids list kept from to s = moved_ids list kept from to (slice_get list.entries from) refl s

showing_ids : (list : Listing) (kept : View) (at : ℕ) (shown : Bool) (o : Option Entry) → slice_get list.entries at ≡ o → AreOfPackets list kept
    → (id : ℕ) → IsSome (kept id) → (place : ℕ) × (option_map (λ (e : Entry). e.id) (slice_get (option_map_or (λ entry. slice_set list.entries at (showing shown entry)) o list.entries) place) ≡ Some id)
showing_ids list kept at shown None h s id some = s id some
showing_ids list kept at shown (Some y) h s id some =
    let there = s id some in
    at_among (slice_set list.entries at (showing shown y)) id (among_same list.entries at (showing shown y) y id h refl (among_at list.entries there.0 id there.1))

show_bit_ids : (list : Listing) (kept : View) (at : ℕ) (shown : Bool) → AreOfPackets list kept → AreOfPackets (with_show_bit_at at shown list) kept
show_bit_ids list kept at shown s = showing_ids list kept at shown (slice_get list.entries at) refl s

pub ids_kept : EditsKeepIds
ids_kept = record { pushes = push_ids; insertions = insertion_ids; replacements = replacement_ids; deletions = deletion_ids; moves = move_ids; show_bits = show_bit_ids }

-- an id among packets is below the next one
among_below : (next : ℕ) (es : List Entry) (id : ℕ) → HaveOwnIds next es → IsAmong id es → id < next
among_below next [] id own a = absurd a
among_below next (e ∷ es) id own (inl is) = let below : e.id < next = own.0 in omega (arith, below, is)
among_below next (e ∷ es) id own (inr a) = among_below next es id own.2 a

not_kept : (list : Listing) (kept : View) (id : ℕ) (o : Option Kept) → kept id ≡ o → HasOwnIds list → AreOfPackets list kept → list.next_id ≤ id → o ≡ None
not_kept list kept id None h own s late = refl
not_kept list kept id (Some outcome) h own s late =
    let there = s id (ap is_some h) in
    let below : id < list.next_id = among_below list.next_id list.entries id own (among_at list.entries there.0 id there.1) in
    absurd (omega (arith, below, late))

pub later_not_kept : LaterIdsAreNotCached
later_not_kept list kept id own s late = not_kept list kept id (kept id) refl own s late

pub next_not_kept : NextIdIsNotCached
next_not_kept list kept own s = later_not_kept list kept list.next_id own s (omega arith)
