-- The ids of a packet list.
use Rattle.std.proofs.Common.{◌≡◌, ℕ, zero, suc, ◌+◌, ◌<◌, ◌≤◌, List, [], ◌∷◌, ◌++◌, Bool, length, slice_get, slice_set, Option, Some, None, refl, sym, ap, ◌∙◌, subst, arith}
use Rattle.std.specs.List.{insert, remove}
use Rattle.std.specs.Option.{option_map_or}
use Rattle.stream_files.specs.declared.packets.Packet.{Packet}
use Rattle.packet_times.specs.declared.durations.Duration.{Duration}
use Rattle.packet_edits.specs.declared.entry.Entry.{Entry}
use Rattle.packet_edits.specs.Edits.{Listing, copied, deleted, inserted_for, numbered, pushed, replaced, showing, with_move, with_show_bit_at}
use Rattle.packet_edits.specs.Laws.{HasOwnIds, HaveOwnIds, IdsStayOwn, IsNotAmong, KeepsIdsOwn}

-- ids below a number are below a greater one
pub above_all : (next more : ℕ) (es : List Entry) → next ≤ more → HaveOwnIds next es → HaveOwnIds more es
above_all next more [] up own = tt
above_all next more (e ∷ es) up own = (let below : e.id < next = own.0 in omega (arith, below, up), own.1, above_all next more es up own.2)

-- and the number itself is not among them
pub next_not_among : (next : ℕ) (es : List Entry) → HaveOwnIds next es → IsNotAmong next es
next_not_among next [] own = tt
next_not_among next (e ∷ es) own = (λ same. let below : e.id < next = own.0 in omega (arith, below, same), next_not_among next es own.2)

-- an inserted packet
not_among_inserted : (id i : ℕ) (e : Entry) (es : List Entry) → (e.id ≡ id → ⊥) → IsNotAmong id es → IsNotAmong id (insert es i e)
not_among_inserted id zero e es other rest = (other, rest)
not_among_inserted id (suc i) e [] other rest = (other, tt)
not_among_inserted id (suc i) e (x ∷ es) other rest = (rest.0, not_among_inserted id i e es other rest.1)

pub own_inserted : (next i : ℕ) (e : Entry) (es : List Entry) → e.id < next → IsNotAmong e.id es → HaveOwnIds next es → HaveOwnIds next (insert es i e)
own_inserted next zero e es below new own = (below, new, own)
own_inserted next (suc i) e [] below new own = (below, tt, tt)
own_inserted next (suc i) e (x ∷ es) below new own = (own.0, not_among_inserted x.id i e es (λ same. new.0 (sym same)) own.1, own_inserted next i e es below new.1 own.2)

-- nothing removed from an empty list
nothing : (id i : ℕ) → IsNotAmong id (remove [] i)
nothing id zero = tt
nothing id (suc i) = tt

none_own : (next i : ℕ) → HaveOwnIds next (remove [] i)
none_own next zero = tt
none_own next (suc i) = tt

-- a removed packet
not_among_removed : (id i : ℕ) (es : List Entry) → IsNotAmong id es → IsNotAmong id (remove es i)
not_among_removed id i [] rest = nothing id i
not_among_removed id zero (x ∷ es) rest = rest.1
not_among_removed id (suc i) (x ∷ es) rest = (rest.0, not_among_removed id i es rest.1)

pub own_removed : (next i : ℕ) (es : List Entry) → HaveOwnIds next es → HaveOwnIds next (remove es i)
own_removed next i [] own = none_own next i
own_removed next zero (x ∷ es) own = own.2
own_removed next (suc i) (x ∷ es) own = (own.0, not_among_removed x.id i es own.1, own_removed next i es own.2)

-- its id is not among the others
pub record IsTakenOut (next i : ℕ) (e : Entry) (es : List Entry) : Type 0 where
  pub below : e.id < next
  pub away : IsNotAmong e.id (remove es i)

has_id : (id i : ℕ) (e : Entry) (es : List Entry) → IsNotAmong id es → slice_get es i ≡ Some e → e.id ≡ id → ⊥
has_id id i e [] rest found same = cc
has_id id zero e (x ∷ es) rest found same = let is : x ≡ e = cc in rest.0 (ap (λ (y : Entry). y.id) is ∙ same)
has_id id (suc i) e (x ∷ es) rest found same = has_id id i e es rest.1 found same

pub taken_out : (next i : ℕ) (e : Entry) (es : List Entry) → HaveOwnIds next es → slice_get es i ≡ Some e → IsTakenOut next i e es
taken_out next i e [] own found = cc
taken_out next zero e (x ∷ es) own found =
    let is : x ≡ e = cc in
    let P : Entry → Type 0 = λ y. IsTakenOut next 0 y (x ∷ es) in
    subst P is (record { below = own.0; away = own.1 })
taken_out next (suc i) e (x ∷ es) own found =
    let rest = taken_out next i e es own.2 found in
    record { below = rest.below; away = (λ same. has_id x.id i e es own.1 found (sym same), rest.away) }

-- a packet with another id
pub not_among_set : (id i : ℕ) (e : Entry) (es : List Entry) → (e.id ≡ id → ⊥) → IsNotAmong id es → IsNotAmong id (slice_set es i e)
not_among_set id i e [] other rest = tt
not_among_set id zero e (x ∷ es) other rest = (other, rest.1)
not_among_set id (suc i) e (x ∷ es) other rest = (rest.0, not_among_set id i e es other rest.1)

pub own_set : (next i : ℕ) (e : Entry) (es : List Entry) → e.id < next → IsNotAmong e.id es → HaveOwnIds next es → HaveOwnIds next (slice_set es i e)
own_set next i e [] below new own = tt
own_set next zero e (x ∷ es) below new own = (below, new.1, own.2)
own_set next (suc i) e (x ∷ es) below new own = (own.0, not_among_set x.id i e es (λ same. new.0 (sym same)) own.1, own_set next i e es below new.1 own.2)

-- a packet with the same id
not_among_same : (id i : ℕ) (e x : Entry) (es : List Entry) → slice_get es i ≡ Some x → e.id ≡ x.id → IsNotAmong id es → IsNotAmong id (slice_set es i e)
not_among_same id i e x [] found same rest = tt
not_among_same id zero e x (y ∷ es) found same rest = let is : y ≡ x = cc in (λ own. rest.0 (ap (λ (z : Entry). z.id) is ∙ sym same ∙ own), rest.1)
not_among_same id (suc i) e x (y ∷ es) found same rest = (rest.0, not_among_same id i e x es found same rest.1)

pub own_same : (next i : ℕ) (e x : Entry) (es : List Entry) → slice_get es i ≡ Some x → e.id ≡ x.id → HaveOwnIds next es → HaveOwnIds next (slice_set es i e)
own_same next i e x [] found same own = tt
own_same next zero e x (y ∷ es) found same own =
    let is : y ≡ x = cc in
    let id : y.id ≡ e.id = ap (λ (z : Entry). z.id) is ∙ sym same in
    (subst (λ (n : ℕ). n < next) id own.0, subst (λ (n : ℕ). IsNotAmong n es) id own.1, own.2)
own_same next (suc i) e x (y ∷ es) found same own = (own.0, not_among_same y.id i e x es found same own.1, own_same next i e x es found same own.2)

showing_own : (list : Listing) (at : ℕ) (shown : Bool) (o : Option Entry) → slice_get list.entries at ≡ o → HasOwnIds list → HaveOwnIds list.next_id (option_map_or (λ entry. slice_set list.entries at (showing shown entry)) o list.entries)
showing_own list at shown None found own = own
showing_own list at shown (Some entry) found own = own_same list.next_id at (showing shown entry) entry list.entries found refl own

-- other bytes with a new id, and a move
replaced_own : (list : Listing) (at : ℕ) (bytes : List ℕ) (o : Option Entry) → HaveOwnIds list.next_id list.entries → HaveOwnIds (list.next_id + 1) (option_map_or (λ entry. slice_set list.entries at (record entry { id = list.next_id; bytes = bytes })) o list.entries)
replaced_own list at bytes None own = above_all list.next_id (list.next_id + 1) list.entries (omega arith) own
replaced_own list at bytes (Some entry) own =
    own_set (list.next_id + 1) at (record entry { id = list.next_id; bytes = bytes }) list.entries (omega arith) (next_not_among list.next_id list.entries own) (above_all list.next_id (list.next_id + 1) list.entries (omega arith) own)

pub moved_own : (next from to : ℕ) (es : List Entry) (o : Option Entry) → slice_get es from ≡ o → HaveOwnIds next es → HaveOwnIds next (option_map_or (λ entry. insert (remove es from) to entry) o es)
moved_own next from to es None found own = own
moved_own next from to es (Some entry) found own =
    let out = taken_out next from entry es own found in
    own_inserted next to entry (remove es from) out.below out.away (own_removed next from es own)

-- appended packets
not_among_both : (id : ℕ) (es fs : List Entry) → IsNotAmong id es → IsNotAmong id fs → IsNotAmong id (es ++ fs)
not_among_both id [] fs a b = b
not_among_both id (e ∷ es) fs a b = (a.0, not_among_both id es fs a.1 b)

numbered_above : (usual : Duration) (id low : ℕ) (packets : List Packet) → low < id → IsNotAmong low (numbered usual id packets)
numbered_above usual id low [] below = tt
numbered_above usual id low (packet ∷ packets) below = (λ same. omega (arith, below, same), numbered_above usual (id + 1) low packets (omega (arith, below)))

numbered_own : (usual : Duration) (id next : ℕ) (packets : List Packet) → id + length packets ≡ next → HaveOwnIds next (numbered usual id packets)
numbered_own usual id next [] whole = tt
numbered_own usual id next (packet ∷ packets) whole = (omega (arith, whole), numbered_above usual (id + 1) id packets (omega arith), numbered_own usual (id + 1) next packets (omega (arith, whole)))

pub pushed_own : (usual : Duration) (next : ℕ) (es : List Entry) (packets : List Packet) → HaveOwnIds next es → HaveOwnIds (next + length packets) (es ++ numbered usual next packets)
pushed_own usual next [] packets own = numbered_own usual next (next + length packets) packets refl
pushed_own usual next (e ∷ es) packets own =
    let below : e.id < next = own.0 in
    (omega (arith, below), not_among_both e.id es (numbered usual next packets) own.1 (numbered_above usual next e.id packets below), pushed_own usual next es packets own.2)

-- each edit
push_keeps : (packets : List Packet) → KeepsIdsOwn (pushed packets)
push_keeps packets = record { own = λ list own. pushed_own list.usual list.next_id list.entries packets own; rises = λ list. omega arith }

insertion_keeps : (duration : Duration) (at stamp : ℕ) (bytes : List ℕ) → KeepsIdsOwn (inserted_for duration at stamp bytes)
insertion_keeps duration at stamp bytes = record {
  own = λ list own. own_inserted (list.next_id + 1) at (record { id = list.next_id; stamp = stamp; duration = duration; bytes = bytes }) list.entries (omega arith) (next_not_among list.next_id list.entries own) (above_all list.next_id (list.next_id + 1) list.entries (omega arith) own);
  rises = λ list. omega arith;
}

copied_own : (at : ℕ) (list : Listing) (o : Option Entry) → HasOwnIds list → HasOwnIds (option_map_or (λ entry. inserted_for entry.duration at entry.stamp entry.bytes list) o list)
copied_own at list None own = own
copied_own at list (Some entry) own = (insertion_keeps entry.duration at entry.stamp entry.bytes).own list own

copied_rises : (at : ℕ) (list : Listing) (o : Option Entry) → list.next_id ≤ (option_map_or (λ entry. inserted_for entry.duration at entry.stamp entry.bytes list) o list).next_id
copied_rises at list None = omega arith
copied_rises at list (Some entry) = omega arith

copy_keeps : (at : ℕ) (source : Listing) (from : ℕ) → KeepsIdsOwn (copied at source from)
copy_keeps at source from = record {
  own = λ list own. copied_own at list (slice_get source.entries from) own;
  rises = λ list. copied_rises at list (slice_get source.entries from);
}

replacement_keeps : (at : ℕ) (bytes : List ℕ) → KeepsIdsOwn (replaced at bytes)
replacement_keeps at bytes = record {
  own = λ list own. replaced_own list at bytes (slice_get list.entries at) own;
  rises = λ list. omega arith;
}

deletion_keeps : (at : ℕ) → KeepsIdsOwn (deleted at)
deletion_keeps at = record { own = λ list own. own_removed list.next_id at list.entries own; rises = λ list. omega arith }

move_keeps : (from to : ℕ) → KeepsIdsOwn (with_move from to)
move_keeps from to = record { own = λ list own. moved_own list.next_id from to list.entries (slice_get list.entries from) refl own; rises = λ list. omega arith }

show_bit_keeps : (at : ℕ) (shown : Bool) → KeepsIdsOwn (with_show_bit_at at shown)
show_bit_keeps at shown = record { own = λ list own. showing_own list at shown (slice_get list.entries at) refl own; rises = λ list. omega arith }

pub ids_own : IdsStayOwn
ids_own = record {
  at_first = λ first_id usual. tt;
  pushes = push_keeps;
  insertions = insertion_keeps;
  copies = copy_keeps;
  replacements = replacement_keeps;
  deletions = deletion_keeps;
  moves = move_keeps;
  show_bits = show_bit_keeps;
}
