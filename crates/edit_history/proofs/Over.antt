-- Lists with places for packets that return at their end.
use Rattle.std.proofs.Common.{◌≡◌, ℕ, zero, suc, ◌+◌, ◌<◌, ◌≤◌, Bool, true, false, List, [], ◌∷◌, ◌++◌, length, slice_set, Option, refl, sym, ap, subst, ◌∙◌, arith, append_assoc, append-nil, length-append}
use Rattle.std.specs.List.{insert, remove}
use Rattle.std.specs.Option.{option_map_or}
use Rattle.std.proofs.lemmas.List.Edits.{length-insert}
use Rattle.packet_edits.specs.declared.entry.Entry.{Entry}
use Rattle.packet_edits.specs.Edits.{Listing, moved}
use Rattle.packet_edits.specs.Marks.{StoreValue, marked_at, marks_inserted, marks_moved, unmarked_at}
use Rattle.packet_edits.specs.Returns.{vacant}
use Rattle.packet_edits.proofs.Mapped.{length_moved, length_removed, length_set}
use Rattle.edit_history.specs.declared.change.Change.{Change}
use Rattle.edit_history.specs.declared.change.Change.TheVariants.{Exchange, Move, Put, Take}
use Rattle.edit_history.specs.Changes.{IsPossible, back, changed, last_of, marks_changed, store_changed, store_made}
use Rattle.edit_history.specs.Places.{placed}
use Rattle.edit_history.proofs.Changes.{exchanged_there}
use Rattle.edit_history.proofs.Lists.{get_front, insert_front, inserted_last, moved_front, remove_front, remove_last, remove_rest, set_any, set_front}

-- the packets of a list and its places
pub record IsOver (waits : List Entry) (live phys : StoreValue) : Type 0 where
  pub list : phys.list ≡ record live.list { entries = live.list.entries ++ waits }
  pub tail : List Bool
  pub marks : phys.marks ≡ live.marks ++ tail
  pub long : length tail ≡ length waits
  pub marked : length live.marks ≡ length live.list.entries

-- the places that are there before a change
abbrev pub waits_before : Change → List Entry → List Entry
waits_before (Put at e) waits = waits ++ vacant e ∷ []
waits_before change waits = waits

abbrev with_entries : Listing → List Entry → Listing
with_entries list es = record list { entries = es }

-- marks, with any marks of the places
abbrev Marked : List Bool → List Bool → ℕ → Type 0
Marked new marks n = (tail : List Bool) × (new ≡ marks ++ tail) × (length tail ≡ n)

marked_any : (marks tail : List Bool) (at : ℕ) (x : Bool) → Marked (slice_set (marks ++ tail) at x) (slice_set marks at x) (length tail)
marked_any marks tail at x = set_any marks tail at x

-- one mark more, and another one
twice : (marks tail : List Bool) (i j : ℕ) (x y : Bool) → Marked (slice_set (slice_set (marks ++ tail) i x) j y) (slice_set (slice_set marks i x) j y) (length tail)
twice marks tail i j x y =
    let first = set_any marks tail i x in
    let second = set_any (slice_set marks i x) first.0 j y in
    (second.0, ap (λ (ms : List Bool). slice_set ms j y) first.1 ∙ second.1, second.2 ∙ first.2)

put_marks : (marks tail : List Bool) (at n : ℕ) → at ≤ length marks → length tail ≡ suc n → Marked (marks_inserted at (remove (marks ++ tail) (length marks + n))) (marks_inserted at marks) n
put_marks marks tail at n within long =
    let left = remove_rest marks tail n (length marks + n) refl long in
    let after = set_any (insert marks at false) left.0 (at + 1) true in (
      after.0,
      ap (λ (ms : List Bool). marked_at (at + 1) (insert ms at false)) left.1 ∙ ap (marked_at (at + 1)) (insert_front marks left.0 at false within) ∙ after.1,
      after.2 ∙ left.2,
    )

take_marks : (marks tail : List Bool) (at : ℕ) → at < length marks → Marked (marked_at at (remove (marks ++ tail) at)) (marked_at at (remove marks at)) (length tail)
take_marks marks tail at within =
    let after = set_any (remove marks at) tail at true in
    (after.0, ap (marked_at at) (remove_front marks tail at within) ∙ after.1, after.2)

exchange_marks : (cuts : Bool) (at : ℕ) (e : Entry) (marks tail : List Bool) → Marked (marks_changed (Exchange at e cuts) (marks ++ tail)) (marks_changed (Exchange at e cuts) marks) (length tail)
exchange_marks true at e marks tail = twice marks tail at (at + 1) false true
exchange_marks false at e marks tail = (tail, refl, refl)

move_marks : (marks tail : List Bool) (from to : ℕ) → from < length marks → to < length marks → Marked (marks_moved from to (marks ++ tail)) (marks_moved from to marks) (length tail)
move_marks marks tail from to out in_ =
    let once = twice marks tail from (from + 1) true true in
    let marks' : List Bool = slice_set (slice_set marks from true) (from + 1) true in
    let long : length marks' ≡ length marks = length_set (slice_set marks from true) (from + 1) true ∙ length_set marks from true in
    let after = set_any (moved from to marks') once.0 (to + 1) true in (
      after.0,
      ap (λ (ms : List Bool). marked_at (to + 1) (moved from to ms)) once.1 ∙ ap (marked_at (to + 1)) (moved_front marks' once.0 from to (omega (arith, long, out)) (omega (arith, long, in_))) ∙ after.1,
      after.2 ∙ once.2,
    )

-- the marks of the list are as many as its packets
as_many : (change : Change) (es : List Entry) (marks : List Bool) → length marks ≡ length es → IsPossible change es → length (marks_changed change marks) ≡ length (changed change es)
as_many (Put at e) es marks same possible =
    let a : length (insert marks at false) ≡ length marks + 1 = length-insert marks at false (omega (arith, same, possible)) in
    let b : length (insert es at e) ≡ length es + 1 = length-insert es at e possible in
    length_set (insert marks at false) (at + 1) true ∙ omega (arith, a, b, same)
as_many (Take at) es marks same possible =
    let a : suc (length (remove marks at)) ≡ length marks = length_removed marks at (omega (arith, same, possible)) in
    let b : suc (length (remove es at)) ≡ length es = length_removed es at possible in
    length_set (remove marks at) at true ∙ omega (arith, a, b, same)
as_many (Exchange at e true) es marks same possible = length_set (unmarked_at at marks) (at + 1) true ∙ length_set marks at false ∙ same ∙ sym (length_set es at e)
as_many (Exchange at e false) es marks same possible = same ∙ sym (length_set es at e)
as_many (Move from to) es marks same possible =
    let marks' : List Bool = slice_set (slice_set marks from true) (from + 1) true in
    let long : length marks' ≡ length marks = length_set (slice_set marks from true) (from + 1) true ∙ length_set marks from true in
    length_set (moved from to marks') (to + 1) true ∙ length_moved from to marks' (omega (arith, long, same, possible.0)) (omega (arith, long, same, possible.1)) ∙ long ∙ same ∙ sym (length_moved from to es possible.0 possible.1)

-- the packets and the marks after a change, where there are places
changed_front : (change : Change) (es waits : List Entry) → IsPossible change es → changed change (es ++ waits) ≡ changed change es ++ waits
changed_front (Put at e) es waits possible = insert_front es waits at e possible
changed_front (Take at) es waits possible = remove_front es waits at possible
changed_front (Exchange at e cuts) es waits possible = set_front es waits at e (exchanged_there cuts at e es possible)
changed_front (Move from to) es waits possible = moved_front es waits from to possible.0 possible.1

over_of : (change : Change) (waits : List Entry) (live phys : StoreValue) → IsPossible change live.list.entries → length live.marks ≡ length live.list.entries
    → phys.list ≡ record live.list { entries = changed change live.list.entries ++ waits } → Marked phys.marks (marks_changed change live.marks) (length waits) → IsOver waits (store_changed change live) phys
over_of change waits live phys possible same list marks =
    record { list = list; tail = marks.0; marks = marks.1; long = marks.2; marked = as_many change live.list.entries live.marks same possible }

pub over_change : (change : Change) (waits : List Entry) (live phys : StoreValue) → IsPossible change live.list.entries → IsOver (waits_before change waits) live phys → IsOver waits (store_changed change live) (store_made change phys)
over_change (Put at e) waits live phys possible over =
    let es : List Entry = live.list.entries in
    let n : ℕ = length waits in
    let whole : phys.list.entries ≡ (es ++ waits) ++ vacant e ∷ [] = ap (λ (l : Listing). l.entries) over.list ∙ sym (append_assoc es waits (vacant e ∷ [])) in
    let count : length phys.list.entries ≡ length (es ++ waits) + 1 = ap length whole ∙ length-append (es ++ waits) (vacant e ∷ []) in
    let both : length (es ++ waits) ≡ length es + n = length-append es waits in
    let last : last_of phys ≡ length (es ++ waits) = omega (arith, count) in
    let last' : last_of phys ≡ length live.marks + n = omega (arith, count, both, over.marked) in
    let one : length (waits ++ vacant e ∷ []) ≡ n + 1 = length-append waits (vacant e ∷ []) in
    let more : length over.tail ≡ suc n = omega (arith, one, over.long) in
    let left : remove phys.list.entries (last_of phys) ≡ es ++ waits = ap (λ (xs : List Entry). remove xs (last_of phys)) whole ∙ ap (remove ((es ++ waits) ++ vacant e ∷ [])) last ∙ remove_last (es ++ waits) (vacant e) in
    let entries : insert (remove phys.list.entries (last_of phys)) at e ≡ insert es at e ++ waits = ap (λ (xs : List Entry). insert xs at e) left ∙ insert_front es waits at e possible in
    let within : at ≤ length live.marks = omega (arith, possible, over.marked) in
    let marks = put_marks live.marks over.tail at n within more in
    over_of (Put at e) waits live (store_made (Put at e) phys) possible over.marked
    (ap (λ (l : Listing). record l { entries = insert (remove phys.list.entries (last_of phys)) at e }) over.list ∙ ap (with_entries live.list) entries)
    (marks.0, ap (λ (ms : List Bool). marks_inserted at (remove ms (last_of phys))) over.marks ∙ ap (λ (k : ℕ). marks_inserted at (remove (live.marks ++ over.tail) k)) last' ∙ marks.1, marks.2)
over_change (Take at) waits live phys possible over =
    let within : at < length live.marks = omega (arith, possible, over.marked) in
    let marks = take_marks live.marks over.tail at within in
    over_of (Take at) waits live (store_made (Take at) phys) possible over.marked
    (ap (λ (l : Listing). record l { entries = changed (Take at) l.entries }) over.list ∙ ap (with_entries live.list) (changed_front (Take at) live.list.entries waits possible))
    (marks.0, ap (marks_changed (Take at)) over.marks ∙ marks.1, marks.2 ∙ over.long)
over_change (Exchange at e cuts) waits live phys possible over =
    let marks = exchange_marks cuts at e live.marks over.tail in
    over_of (Exchange at e cuts) waits live (store_made (Exchange at e cuts) phys) possible over.marked
    (ap (λ (l : Listing). record l { entries = changed (Exchange at e cuts) l.entries }) over.list ∙ ap (with_entries live.list) (changed_front (Exchange at e cuts) live.list.entries waits possible))
    (marks.0, ap (marks_changed (Exchange at e cuts)) over.marks ∙ marks.1, marks.2 ∙ over.long)
over_change (Move from to) waits live phys possible over =
    let out : from < length live.marks = omega (arith, possible.0, over.marked) in
    let in_ : to < length live.marks = omega (arith, possible.1, over.marked) in
    let marks = move_marks live.marks over.tail from to out in_ in
    over_of (Move from to) waits live (store_made (Move from to) phys) possible over.marked
    (ap (λ (l : Listing). record l { entries = changed (Move from to) l.entries }) over.list ∙ ap (with_entries live.list) (changed_front (Move from to) live.list.entries waits possible))
    (marks.0, ap (marks_changed (Move from to)) over.marks ∙ marks.1, marks.2 ∙ over.long)

-- the way back is the same
pub back_over : (change : Change) (waits : List Entry) (live phys : StoreValue) → IsPossible change live.list.entries → IsOver (waits_before change waits) live phys → back change phys.list.entries ≡ back change live.list.entries
back_over (Put at e) waits live phys possible over = refl
back_over (Take at) waits live phys possible over =
    ap (λ (l : Listing). back (Take at) l.entries) over.list ∙ ap (λ (o : Option Entry). option_map_or (λ entry. Put at entry) o (Take at)) (get_front live.list.entries waits at possible)
back_over (Exchange at e cuts) waits live phys possible over =
    ap (λ (l : Listing). back (Exchange at e cuts) l.entries) over.list
    ∙ ap (λ (o : Option Entry). option_map_or (λ old. Exchange at old cuts) o (Exchange at e cuts)) (get_front live.list.entries waits at (exchanged_there cuts at e live.list.entries possible))
back_over (Move from to) waits live phys possible over = refl

-- without places the list is its packets
pub over_none : (live phys : StoreValue) → IsOver [] live phys → phys ≡ live
over_none live phys over =
    let none : over.tail ≡ [] = empty over.tail over.long in
    let list : phys.list ≡ live.list = over.list ∙ ap (with_entries live.list) (append-nil live.list.entries) in
    let marks : phys.marks ≡ live.marks = over.marks ∙ ap (λ (ms : List Bool). live.marks ++ ms) none ∙ append-nil live.marks in
    subst (λ (m : List Bool). phys ≡ record { list = live.list; marks = m }) marks (subst (λ (l : Listing). phys ≡ record { list = l; marks = phys.marks }) list refl)
  where
    empty : (xs : List Bool) → length xs ≡ 0 → xs ≡ []
    empty [] h = refl
    empty (x ∷ xs) h = absurd (omega (arith, h))

-- a place more
pub over_placed : (e : Entry) (waits : List Entry) (live phys : StoreValue) → IsOver waits live phys → IsOver (waits ++ vacant e ∷ []) live (placed e phys)
over_placed e waits live phys over =
    let es : List Entry = live.list.entries in
    let whole : insert phys.list.entries (length phys.list.entries) (vacant e) ≡ es ++ (waits ++ vacant e ∷ []) =
    inserted_last phys.list.entries (vacant e) ∙ ap (λ (l : Listing). l.entries ++ vacant e ∷ []) over.list ∙ append_assoc es waits (vacant e ∷ []) in
    let packets : length phys.list.entries ≡ length es + length waits = ap (λ (l : Listing). length l.entries) over.list ∙ length-append es waits in
    let flags : length phys.marks ≡ length live.marks + length over.tail = ap length over.marks ∙ length-append live.marks over.tail in
    let many : length phys.list.entries ≡ length phys.marks = omega (arith, packets, flags, over.long, over.marked) in
    let appended : insert phys.marks (length phys.list.entries) false ≡ live.marks ++ (over.tail ++ false ∷ []) =
    ap (λ (k : ℕ). insert phys.marks k false) many ∙ inserted_last phys.marks false ∙ ap (λ (ms : List Bool). ms ++ false ∷ []) over.marks ∙ append_assoc live.marks over.tail (false ∷ []) in
    let after = set_any live.marks (over.tail ++ false ∷ []) (length phys.list.entries + 1) true in
    let same : slice_set live.marks (length phys.list.entries + 1) true ≡ live.marks = past live.marks (length phys.list.entries + 1) true (omega (arith, packets, over.marked)) in
    let tail_more : length (over.tail ++ false ∷ []) ≡ length over.tail + 1 = length-append over.tail (false ∷ []) in
    let waits_more : length (waits ++ vacant e ∷ []) ≡ length waits + 1 = length-append waits (vacant e ∷ []) in
    record {
      list = ap (λ (l : Listing). record l { entries = insert phys.list.entries (length phys.list.entries) (vacant e) }) over.list ∙ ap (with_entries live.list) whole;
      tail = after.0;
      marks = ap (marked_at (length phys.list.entries + 1)) appended ∙ after.1 ∙ ap (λ (ms : List Bool). ms ++ after.0) same;
      long = after.2 ∙ omega (arith, tail_more, waits_more, over.long);
      marked = over.marked;
    }
  where
    past : (xs : List Bool) (at : ℕ) (x : Bool) → length xs ≤ at → slice_set xs at x ≡ xs
    past [] at x beyond = refl
    past (z ∷ xs) zero x beyond = absurd (omega (arith, beyond))
    past (z ∷ xs) (suc at) x beyond = ap (λ (ys : List Bool). z ∷ ys) (past xs at x (omega (arith, beyond)))
