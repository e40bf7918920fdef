-- Steps to earlier and later values of what edits and scripts change.
use Rattle.std.specs.Prelude.{ℕ, ◌<◌, List, [], ◌∷◌, length, slice_index_or, slice_set}
use Rattle.packet_times.specs.Durations.{one_frame}
use Rattle.packet_edits.specs.Edits.{starting}
use Rattle.packet_edits.specs.Marks.{StoreValue}
use Rattle.script_nodes.specs.declared.nodes.Node.{Node}
use Rattle.edit_history.specs.declared.step.Step.{Step}
use Rattle.edit_history.specs.declared.step.Step.TheVariants.{Packets, Script}
use Rattle.edit_history.specs.Changes.{IsPossible, IsReady, back, store_changed, store_made}

-- what edits and scripts change: the packets of each source with their marks, the script, and the current source
pub record Content : Type 0 where
  pub stores : List StoreValue
  pub script : List Node
  pub current : ℕ

abbrev pub content_of : List StoreValue → List Node → ℕ → Content
content_of stores script current = record { stores = stores; script = script; current = current }

-- the packets of a source; a source that does not exist has none
abbrev pub store_at : List StoreValue → ℕ → StoreValue
store_at stores source = slice_index_or stores source (record { list = starting 0 one_frame; marks = [] })

-- the value after a step
abbrev pub after_step : Step → Content → Content
after_step (Packets source change current) now = record now { stores = slice_set now.stores source (store_changed change (store_at now.stores source)); current = current }
after_step (Script script current) now = record now { script = script; current = current }

-- the step that leads back
abbrev pub way_back : Step → Content → Step
way_back (Packets source change current) now = Packets source (back change (store_at now.stores source).list.entries) now.current
way_back (Script script current) now = Script now.script now.current

-- a step is possible
abbrev pub IsPossibleStep : Step → Content → Type 0
IsPossibleStep (Packets source change current) now = (source < length now.stores) × IsPossible change (store_at now.stores source).list.entries
IsPossibleStep (Script script current) now = Unit {0}

-- the value after steps, in their order, and the steps that lead back, the last one last
abbrev pub after_steps : List Step → Content → Content
after_steps [] now = now
after_steps (step ∷ steps) now = after_steps steps (after_step step now)

abbrev pub ways_back : List Step → Content → List Step
ways_back [] now = []
ways_back (step ∷ steps) now = way_back step now ∷ ways_back steps (after_step step now)

abbrev pub ArePossible : List Step → Content → Type 0
ArePossible [] now = Unit {0}
ArePossible (step ∷ steps) now = IsPossibleStep step now × ArePossible steps (after_step step now)

-- the value after a step of lists with a place for each packet that returns
abbrev pub made : Step → Content → Content
made (Packets source change current) now = record now { stores = slice_set now.stores source (store_made change (store_at now.stores source)); current = current }
made (Script script current) now = record now { script = script; current = current }

abbrev pub IsReadyStep : Step → Content → Type 0
IsReadyStep (Packets source change current) now = (source < length now.stores) × IsReady change (store_at now.stores source)
IsReadyStep (Script script current) now = Unit {0}

-- the same of steps in their order
abbrev pub all_made : List Step → Content → Content
all_made [] now = now
all_made (step ∷ steps) now = all_made steps (made step now)

abbrev pub ways_made : List Step → Content → List Step
ways_made [] now = []
ways_made (step ∷ steps) now = way_back step now ∷ ways_made steps (made step now)

abbrev pub AreReady : List Step → Content → Type 0
AreReady [] now = Unit {0}
AreReady (step ∷ steps) now = IsReadyStep step now × AreReady steps (made step now)

-- steps turned round, before others
abbrev pub turned_onto : List Step → List Step → List Step
turned_onto [] steps = steps
turned_onto (step ∷ more) steps = turned_onto more (step ∷ steps)

-- steps, the last one first
abbrev pub last_first : List Step → List Step
last_first steps = turned_onto steps []

-- the source of each step exists
abbrev pub HasSource : ℕ → Step → Type 0
HasSource count (Packets source change current) = source < count
HasSource count (Script script current) = Unit {0}

abbrev pub HaveSources : ℕ → List Step → Type 0
HaveSources count [] = Unit {0}
HaveSources count (step ∷ steps) = HasSource count step × HaveSources count steps
