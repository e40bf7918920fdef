-- Changes of the packets of a source that lead to an earlier or a later list of packets.
use Rattle.std.specs.Prelude.{◌≡◌, ℕ, ◌-◌, ◌<◌, ◌≤◌, Bool, true, false, List, length, slice_get, slice_set, Some, if◌then◌else◌}
use Rattle.std.specs.List.{insert, remove}
use Rattle.std.specs.Option.{option_map_or}
use Rattle.packet_edits.specs.declared.entry.Entry.{Entry}
use Rattle.packet_edits.specs.Edits.{deleted, moved}
use Rattle.packet_edits.specs.Marks.{StoreValue, marks_deleted, marks_inserted, marks_moved, marks_replaced}
use Rattle.packet_edits.specs.Returns.{AreAlikeButShown, MayReturn, returned, vacant}
use Rattle.edit_history.specs.declared.change.Change.{Change}
use Rattle.edit_history.specs.declared.change.Change.TheVariants.{Exchange, Move, Put, Take}

-- the packets after a change
abbrev pub changed : Change → List Entry → List Entry
changed (Put at entry) entries = insert entries at entry
changed (Take at) entries = remove entries at
changed (Exchange at entry cuts) entries = slice_set entries at entry
changed (Move from to) entries = moved from to entries

-- the marks after it
abbrev pub marks_changed : Change → List Bool → List Bool
marks_changed (Put at entry) marks = marks_inserted at marks
marks_changed (Take at) marks = marks_deleted at marks
marks_changed (Exchange at entry cuts) marks = if cuts then marks_replaced at marks else marks
marks_changed (Move from to) marks = marks_moved from to marks

-- packets and marks after a change; the next id stays
abbrev pub store_changed : Change → StoreValue → StoreValue
store_changed change store = record { list = record store.list { entries = changed change store.list.entries }; marks = marks_changed change store.marks }

-- the change that leads back; it owns the packet that leaves
abbrev pub back : Change → List Entry → Change
back (Put at entry) entries = Take at
back (Take at) entries = option_map_or (λ entry. Put at entry) (slice_get entries at) (Take at)
back (Exchange at entry cuts) entries = option_map_or (λ old. Exchange at old cuts) (slice_get entries at) (Exchange at entry cuts)
back (Move from to) entries = Move to from

-- a change is possible: its packets exist, and packets that are exchanged without a cut differ at most in the show bit
abbrev pub IsPossible : Change → List Entry → Type 0
IsPossible (Put at entry) entries = at ≤ length entries
IsPossible (Take at) entries = at < length entries
IsPossible (Exchange at entry true) entries = at < length entries
IsPossible (Exchange at entry false) entries = (old : Entry) × (slice_get entries at ≡ Some old) × AreAlikeButShown old entry
IsPossible (Move from to) entries = (from < length entries) × (to < length entries)

-- the index of the last packet, which is the place of one that returns
abbrev pub last_of : StoreValue → ℕ
last_of store = length store.list.entries - 1

-- packets and marks after a change of a list that has a place for a packet that returns at its end
abbrev pub store_made : Change → StoreValue → StoreValue
store_made (Put at entry) store = record { list = returned at entry (deleted (last_of store) store.list); marks = marks_inserted at (remove store.marks (last_of store)) }
store_made change store = store_changed change store

-- a change may be made of a list with such a place: the packet that returns has its id, and a packet for which another one is exchanged
-- may return without it, or has its id
abbrev pub IsReady : Change → StoreValue → Type 0
IsReady (Put at entry) store = (at < length store.list.entries) × (slice_get store.list.entries (last_of store) ≡ Some (vacant entry))
IsReady (Take at) store = at < length store.list.entries
IsReady (Exchange at entry true) store = (at < length store.list.entries) × MayReturn entry store.list.next_id (remove store.list.entries at)
IsReady (Exchange at entry false) store = (old : Entry) × (slice_get store.list.entries at ≡ Some old) × (entry.id ≡ old.id)
IsReady (Move from to) store = (from < length store.list.entries) × (to < length store.list.entries)
