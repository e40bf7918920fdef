-- Packets that leave a list and return to it.
use Rattle.std.specs.Prelude.{◌≡◌, ◌⊎◌, ℕ, ◌+◌, ◌<◌, ◌≤◌, Bool, List, [], length, slice_get, slice_set, Some}
use Rattle.std.specs.List.{insert, remove}
use Rattle.packet_times.specs.declared.durations.Duration.{Duration}
use Rattle.packet_edits.specs.declared.entry.Entry.{Entry}
use Rattle.packet_edits.specs.Edits.{Listing, deleted, inserted_for, replaced, showing, with_move, with_show_bit_at}
use Rattle.packet_edits.specs.Laws.{HasOwnIds, IsNotAmong}

-- a packet may return to these packets with its id: the id is below the next one, and none of them has it
pub record MayReturn (entry : Entry) (next_id : ℕ) (entries : List Entry) : Type 0 where
  pub below : entry.id < next_id
  pub away : IsNotAmong entry.id entries

-- a packet that returns to an index, with its id; the next id stays
abbrev pub returned : ℕ → Entry → Listing → Listing
returned at entry list = record list { entries = insert list.entries at entry }

-- the packet at an index exchanged for another one, which has its own id; the next id stays
abbrev pub exchanged : ℕ → Entry → Listing → Listing
exchanged at entry list = record list { entries = slice_set list.entries at entry }

-- the same packet twice, or once with its show bit set or cleared
abbrev pub AreAlikeButShown : Entry → Entry → Type 0
AreAlikeButShown one other = (shown : Bool) × ((one ≡ showing shown other) ⊎ (other ≡ showing shown one))

-- a packet with no bytes, in place of one that is to return
abbrev pub vacant : Entry → Entry
vacant entry = record entry { bytes = [] }

-- each edit is undone by a return, a removal, an exchange or a move: the packets are those before it, with their ids; the next id does not fall
pub record ReturnsRestore : Type 0 where
  pub insertions : (duration : Duration) (at stamp : ℕ) (bytes : List ℕ) (list : Listing) → at ≤ length list.entries
      → deleted at (inserted_for duration at stamp bytes list) ≡ record list { next_id = list.next_id + 1 }
  pub replacements : (at : ℕ) (bytes : List ℕ) (entry : Entry) (list : Listing) → slice_get list.entries at ≡ Some entry
      → exchanged at entry (replaced at bytes list) ≡ record list { next_id = list.next_id + 1 }
  pub deletions : (at : ℕ) (entry : Entry) (list : Listing) → slice_get list.entries at ≡ Some entry → returned at entry (deleted at list) ≡ list
  pub moves : (from to : ℕ) (list : Listing) → from < length list.entries → to < length list.entries → with_move to from (with_move from to list) ≡ list
  pub show_bits : (at : ℕ) (shown : Bool) (entry : Entry) (list : Listing) → slice_get list.entries at ≡ Some entry → exchanged at entry (with_show_bit_at at shown list) ≡ list

-- a packet may return exactly if each packet has its own id then
pub record ReturnsKeepIdsOwn : Type 0 where
  pub returns : (at : ℕ) (entry : Entry) (list : Listing) → HasOwnIds list → MayReturn entry list.next_id list.entries → HasOwnIds (returned at entry list)
  pub returned_may : (at : ℕ) (entry : Entry) (list : Listing) → at ≤ length list.entries → HasOwnIds (returned at entry list) → MayReturn entry list.next_id list.entries
  pub exchanges : (at : ℕ) (entry : Entry) (list : Listing) → HasOwnIds list → MayReturn entry list.next_id (remove list.entries at) → HasOwnIds (exchanged at entry list)
  pub exchanged_may : (at : ℕ) (entry : Entry) (list : Listing) → at < length list.entries → HasOwnIds (exchanged at entry list) → MayReturn entry list.next_id (remove list.entries at)
