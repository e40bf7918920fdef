-- Laws about the definitions of this crate.
use Rattle.std.specs.Prelude.{◌≡◌, ℕ, ◌<◌, List, length}
use Rattle.packet_edits.specs.declared.entry.Entry.{Entry}
use Rattle.edit_history.specs.declared.change.Change.{Change}
use Rattle.packet_edits.specs.Marks.{StoreValue}
use Rattle.edit_history.specs.declared.step.Step.{Step}
use Rattle.edit_history.specs.Changes.{IsPossible, back, changed}
use Rattle.edit_history.specs.Places.{ArePlaceable, HaveOwnHeld, with_places}
use Rattle.edit_history.specs.Steps.{ArePossible, AreReady, Content, HaveSources, after_steps, all_made, last_first, store_at, ways_back, ways_made}

-- a change leads back to the packets before it
pub record ChangesLeadBack : Type 0 where
  pub leads_back : (change : Change) (entries : List Entry) → IsPossible change entries → changed (back change entries) (changed change entries) ≡ entries
  pub possible : (change : Change) (entries : List Entry) → IsPossible change entries → IsPossible (back change entries) (changed change entries)

-- each source has as many marks as packets
abbrev pub AreMarked : List StoreValue → Type 0
AreMarked stores = (source : ℕ) → source < length stores → length (store_at stores source).marks ≡ length (store_at stores source).list.entries

-- places for steps may be made, and then the steps may be made, the last one first
pub record NeedNoMemory (steps : List Step) (now : Content) : Type 0 where
  pub placeable : ArePlaceable steps now.stores
  pub ready : AreReady (last_first steps) (record now { stores = with_places steps now.stores })
  pub ends : all_made (last_first steps) (record now { stores = with_places steps now.stores }) ≡ after_steps (last_first steps) now
  pub back : ways_made (last_first steps) (record now { stores = with_places steps now.stores }) ≡ ways_back (last_first steps) now

-- once each packet that returns has a place, steps lead where they lead without memory
abbrev pub StepsNeedNoMemory : Type 0
StepsNeedNoMemory = (steps : List Step) (now : Content) → HaveSources (length now.stores) steps → HaveOwnHeld (last_first steps) now.stores → AreMarked now.stores → ArePossible (last_first steps) now → NeedNoMemory steps now
