-- Places for packets that return: room that is taken before a step is made.
use Rattle.std.specs.Prelude.{ℕ, ◌<◌, ◌==◌, true, List, [], ◌∷◌, ◌++◌, if◌then◌else◌, length, slice_set}
use Rattle.packet_edits.specs.declared.entry.Entry.{Entry}
use Rattle.packet_edits.specs.Edits.{deleted}
use Rattle.packet_edits.specs.Laws.{HaveOwnIds}
use Rattle.packet_edits.specs.Marks.{StoreValue, marks_deleted, marks_inserted}
use Rattle.packet_edits.specs.Returns.{MayReturn, returned, vacant}
use Rattle.edit_history.specs.Changes.{last_of}
use Rattle.edit_history.specs.declared.change.Change.TheVariants.{Exchange, Put}
use Rattle.edit_history.specs.declared.step.Step.{Step}
use Rattle.edit_history.specs.declared.step.Step.TheVariants.{Packets}
use Rattle.edit_history.specs.Steps.{store_at}

-- a place for a packet at the end of a list
abbrev pub placed : Entry → StoreValue → StoreValue
placed entry store = record { list = returned (length store.list.entries) (vacant entry) store.list; marks = marks_inserted (length store.list.entries) store.marks }

-- the sources with a place for the packet that a step puts back, if it puts one back
abbrev pub with_place : Step → List StoreValue → List StoreValue
with_place (Packets source (Put at entry) current) stores = slice_set stores source (placed entry (store_at stores source))
with_place step stores = stores

-- the sources without the place for the packet that a step puts back, which is the last packet of its source
abbrev pub without_place : Step → List StoreValue → List StoreValue
without_place (Packets source (Put at entry) current) stores =
    let store = store_at stores source in slice_set stores source (record { list = deleted (last_of store) store.list; marks = marks_deleted (last_of store) store.marks })
without_place step stores = stores

-- such a place may be removed
abbrev pub IsDroppable : Step → List StoreValue → Type 0
IsDroppable (Packets source (Put at entry) current) stores = (source < length stores) × (0 < length (store_at stores source).list.entries)
IsDroppable step stores = Unit {0}

-- such a place may be made
abbrev pub IsPlaceable : Step → List StoreValue → Type 0
IsPlaceable (Packets source (Put at entry) current) stores = (source < length stores) × MayReturn entry (store_at stores source).list.next_id (store_at stores source).list.entries
IsPlaceable step stores = Unit {0}

-- the sources with places for steps, in their order
abbrev pub with_places : List Step → List StoreValue → List StoreValue
with_places [] stores = stores
with_places (step ∷ steps) stores = with_places steps (with_place step stores)

abbrev pub ArePlaceable : List Step → List StoreValue → Type 0
ArePlaceable [] stores = Unit {0}
ArePlaceable (step ∷ steps) stores = IsPlaceable step stores × ArePlaceable steps (with_place step stores)

-- the packets of a source that steps own and whose ids no packet of its list has
abbrev pub held : ℕ → List Step → List Entry
held source [] = []
held source (Packets other (Put at entry) current ∷ steps) = if other == source then entry ∷ held source steps else held source steps
held source (Packets other (Exchange at entry true) current ∷ steps) = if other == source then entry ∷ held source steps else held source steps
held source (step ∷ steps) = held source steps

-- in each source the packets of the list and those that steps own have different ids, below the next one
abbrev pub HaveOwnHeld : List Step → List StoreValue → Type 0
HaveOwnHeld steps stores = (source : ℕ) → source < length stores → HaveOwnIds (store_at stores source).list.next_id ((store_at stores source).list.entries ++ held source steps)
