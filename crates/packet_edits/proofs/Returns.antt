-- Packets that leave a list and return to it.
use Rattle.std.proofs.Common.{◌≡◌, ℕ, zero, suc, ◌+◌, ◌<◌, ◌≤◌, Bool, true, false, List, [], ◌∷◌, length, map, slice_get, slice_set, Option, Some, None, refl, sym, ap, subst, ◌∙◌, arith}
use Rattle.std.specs.List.{insert, remove}
use Rattle.std.specs.Option.{option_map_or}
use Rattle.std.proofs.lemmas.List.Edits.{length-insert}
use Rattle.packet_times.specs.declared.durations.Duration.{Duration}
use Rattle.packet_edits.specs.declared.entry.Entry.{Entry}
use Rattle.packet_edits.specs.declared.packet_index.PacketIndex.{PacketIndex}
use Rattle.chunked_list.specs.Moves.{moved}
use Rattle.packet_edits.specs.Edits.{Listing, deleted, inserted_for, replaced, showing, with_move, with_show_bit_at}
use Rattle.packet_edits.specs.Indexes.{inserted_to, moved_in, set_in}
use Rattle.packet_edits.specs.Laws.{HasOwnIds, HaveOwnIds, IsNotAmong}
use Rattle.packet_edits.specs.Marks.{marked_at, marks_inserted, marks_replaced, unmarked_at}
use Rattle.packet_edits.specs.Returns.{MayReturn, ReturnsKeepIdsOwn, ReturnsRestore, exchanged, returned}
use Rattle.packet_edits.specs.Stores.{IsWhole, index_of}
use Rattle.packet_edits.proofs.Ids.{not_among_set, own_inserted, own_removed, taken_out}
use Rattle.packet_edits.proofs.Indexed.{index_inserted, index_moved, index_set}
use Rattle.packet_edits.proofs.Mapped.{get_set, length_moved, length_removed, length_set, moved_is, remove_inserted, remove_set, set_again, set_same, stands}

-- a packet exchanged for another one
pub own_put : (next i : ℕ) (e : Entry) (es : List Entry) → e.id < next → IsNotAmong e.id (remove es i) → HaveOwnIds next es → HaveOwnIds next (slice_set es i e)
own_put next i e [] below away own = tt
own_put next zero e (x ∷ es) below away own = (below, away, own.2)
own_put next (suc i) e (x ∷ es) below away own = (own.0, not_among_set x.id i e es (λ same. away.0 (sym same)) own.1, own_put next i e es below away.1 own.2)

-- an element inserted
pub get_inserted : {A : Type 0} (xs : List A) (at : ℕ) (x : A) → at ≤ length xs → slice_get (insert xs at x) at ≡ Some x
get_inserted xs zero x within = refl
get_inserted [] (suc at) x within = absurd (omega arith)
get_inserted (y ∷ xs) (suc at) x within = get_inserted xs at x (omega arith)

-- an element removed and inserted again
pub insert_removed : {A : Type 0} (xs : List A) (at : ℕ) (x : A) → slice_get xs at ≡ Some x → insert (remove xs at) at x ≡ xs
insert_removed [] at x here = cc
insert_removed (y ∷ xs) zero x here = let is : y ≡ x = cc in ap (λ z. z ∷ xs) (sym is)
insert_removed (y ∷ xs) (suc at) x here = ap (λ ys. y ∷ ys) (insert_removed xs at x here)

-- overwritten and moved
pub moved_put : {A : Type 0} (from to : ℕ) (xs : List A) (x : A) → from < length xs → moved from to (slice_set xs from x) ≡ insert (remove xs from) to x
moved_put from to xs x within = moved_is from to (slice_set xs from x) x (get_set xs from x within) ∙ ap (λ ys. insert ys to x) (remove_set xs from x)

-- moved there and back
pub moved_back : {A : Type 0} (from to : ℕ) (xs : List A) → from < length xs → to < length xs → moved to from (moved from to xs) ≡ xs
moved_back from to xs out in_ =
    let s = stands xs from out in
    let left = length_removed xs from out in
    let there : moved from to xs ≡ insert (remove xs from) to s.element = moved_is from to xs s.element s.here in
    ap (moved to from) there
    ∙ moved_is to from (insert (remove xs from) to s.element) s.element (get_inserted (remove xs from) to s.element (omega (arith, left, in_)))
    ∙ ap (λ ys. insert ys from s.element) (remove_inserted (remove xs from) to s.element (omega (arith, left, in_)))
    ∙ insert_removed xs from s.element s.here

abbrev with_entries : Listing → List Entry → Listing
with_entries list es = record list { entries = es }

replaced_back : (at : ℕ) (bytes : List ℕ) (entry : Entry) (list : Listing) (o : Option Entry) → o ≡ Some entry → slice_get list.entries at ≡ Some entry
    → slice_set (option_map_or (λ e. slice_set list.entries at (record e { id = list.next_id; bytes = bytes })) o list.entries) at entry ≡ list.entries
replaced_back at bytes entry list None is here = cc
replaced_back at bytes entry list (Some e) is here = set_again list.entries at (record e { id = list.next_id; bytes = bytes }) entry ∙ set_same list.entries at entry here

shown_back : (at : ℕ) (shown : Bool) (entry : Entry) (list : Listing) (o : Option Entry) → o ≡ Some entry → slice_get list.entries at ≡ Some entry
    → slice_set (option_map_or (λ e. slice_set list.entries at (showing shown e)) o list.entries) at entry ≡ list.entries
shown_back at shown entry list None is here = cc
shown_back at shown entry list (Some e) is here = set_again list.entries at (showing shown e) entry ∙ set_same list.entries at entry here

pub restore : ReturnsRestore
restore = record {
  insertions = λ duration at stamp bytes list within.
      ap (λ (es : List Entry). record list { entries = es; next_id = list.next_id + 1 }) (remove_inserted list.entries at (record { id = list.next_id; stamp = stamp; duration = duration; bytes = bytes }) within);
  replacements = λ at bytes entry list here.
      ap (λ (es : List Entry). record list { entries = es; next_id = list.next_id + 1 }) (replaced_back at bytes entry list (slice_get list.entries at) here here);
  deletions = λ at entry list here. ap (with_entries list) (insert_removed list.entries at entry here);
  moves = λ from to list out in_. ap (with_entries list) (moved_back from to list.entries out in_);
  show_bits = λ at shown entry list here. ap (with_entries list) (shown_back at shown entry list (slice_get list.entries at) here here);
}

may_of : (next at : ℕ) (e : Entry) (es fs : List Entry) → HaveOwnIds next es → slice_get es at ≡ Some e → remove es at ≡ fs → MayReturn e next fs
may_of next at e es fs own here left =
    let out = taken_out next at e es own here in
    record { below = out.below; away = subst (IsNotAmong e.id) left out.away }

pub keep_own : ReturnsKeepIdsOwn
keep_own = record {
  returns = λ at entry list own may. own_inserted list.next_id at entry list.entries may.below may.away own;
  returned_may = λ at entry list within own. may_of list.next_id at entry (insert list.entries at entry) list.entries own (get_inserted list.entries at entry within) (remove_inserted list.entries at entry within);
  exchanges = λ at entry list own may. own_put list.next_id at entry list.entries may.below may.away own;
  exchanged_may = λ at entry list within own. may_of list.next_id at entry (slice_set list.entries at entry) (remove list.entries at) own (get_set list.entries at entry within) (remove_set list.entries at entry);
}

-- the invariant of a store
module _ (es new : List Entry) (id : ℕ) (marks marks' : List Bool) (index index' : PacketIndex) (is : IsWhole es id marks index) where
  pub whole_return : (at : ℕ) (e : Entry) → at ≤ length es → length es < 1048576 → MayReturn e id es → new ≡ insert es at e → marks' ≡ insert marks at false → index' ≡ inserted_to at e.bytes index → IsWhole new id marks' index'
  whole_return at e within few may put m reported = record {
    indexed = reported ∙ index_inserted es index at e is.indexed within ∙ ap index_of (sym put);
    few = let long : length new ≡ length es + 1 = ap length put ∙ length-insert es at e within in omega (arith, long, few);
    marked =
        let same : length marks ≡ length es = is.marked in
        ap length m ∙ length-insert marks at false (omega (arith, within, same)) ∙ ap (λ n. n + 1) same ∙ sym (length-insert es at e within) ∙ ap length (sym put);
    own = subst (HaveOwnIds id) (sym put) (own_inserted id at e es may.below may.away is.own);
  }

  pub whole_exchange : (at : ℕ) (e : Entry) → MayReturn e id (remove es at) → new ≡ slice_set es at e → length marks' ≡ length marks → index' ≡ set_in at e.bytes index → IsWhole new id marks' index'
  whole_exchange at e may put m reported = record {
    indexed = reported ∙ index_set es index at e is.indexed ∙ ap index_of (sym put);
    few = let few : length es ≤ 1048576 = is.few in let same : length new ≡ length es = ap length put ∙ length_set es at e in omega (arith, few, same);
    marked = m ∙ is.marked ∙ sym (length_set es at e) ∙ ap length (sym put);
    own = subst (HaveOwnIds id) (sym put) (own_put id at e es may.below may.away is.own);
  }

  pub whole_put : (place at : ℕ) (e : Entry) → place < length es → at < length es → MayReturn e id (remove es place) → new ≡ moved place at (slice_set es place e) → marks' ≡ marked_at (at + 1) (moved place at (unmarked_at place marks))
      → index' ≡ moved_in place at (set_in place e.bytes index) → IsWhole new id marks' index'
  whole_put place at e out in_ may put m reported =
      let same : length marks ≡ length es = is.marked in
      let set : length (slice_set es place e) ≡ length es = length_set es place e in
      let unmarked : length (unmarked_at place marks) ≡ length marks = length_set marks place false in
      let long : length (moved place at (slice_set es place e)) ≡ length (slice_set es place e) = length_moved place at (slice_set es place e) (omega (arith, set, out)) (omega (arith, set, in_)) in
      let as_long : length (moved place at (unmarked_at place marks)) ≡ length (unmarked_at place marks) = length_moved place at (unmarked_at place marks) (omega (arith, unmarked, same, out)) (omega (arith, unmarked, same, in_)) in
      record {
        indexed = reported ∙ index_moved (slice_set es place e) (set_in place e.bytes index) place at (index_set es index place e is.indexed) (omega (arith, set, out)) (omega (arith, set, in_)) ∙ ap index_of (sym put);
        few = let few : length es ≤ 1048576 = is.few in let whole : length new ≡ length (moved place at (slice_set es place e)) = ap length put in omega (arith, few, whole, long, set);
        marked =
            ap length m ∙ length_set (moved place at (unmarked_at place marks)) (at + 1) true ∙ as_long ∙ unmarked ∙ same ∙ sym set ∙ sym long ∙ ap length (sym put);
        own = subst (HaveOwnIds id) (sym (put ∙ moved_put place at es e out)) (own_inserted id at e (remove es place) may.below may.away (own_removed id place es is.own));
      }

-- the marks after it
pub marks_put : (place at : ℕ) (marks : List Bool) → place < length marks → marked_at (at + 1) (moved place at (unmarked_at place marks)) ≡ marks_inserted at (remove marks place)
marks_put place at marks within = ap (marked_at (at + 1)) (moved_put place at marks false within)

-- a mark past the last packet
pub marks_appended : (marks : List Bool) (x : Bool) → slice_set (insert marks (length marks) x) (length marks + 1) true ≡ insert marks (length marks) x
marks_appended marks x = past (insert marks (length marks) x) (length marks + 1) true (let long : length (insert marks (length marks) x) ≡ length marks + 1 = length-insert marks (length marks) x (omega arith) in omega (arith, long))
  where
    past : (xs : List Bool) (at : ℕ) (y : Bool) → length xs ≤ at → slice_set xs at y ≡ xs
    past [] at y beyond = refl
    past (z ∷ xs) zero y beyond = absurd (omega arith)
    past (z ∷ xs) (suc at) y beyond = ap (λ ys. z ∷ ys) (past xs at y (omega arith))
