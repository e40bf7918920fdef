-- Trails: what edits and scripts change, with the steps that lead to the earlier values and to those that were undone.
use Rattle.std.specs.Prelude.{◌≡◌, ℕ, zero, suc, ◌<◌, List, [], ◌∷◌, ◌++◌, length, map, Option, None, Some, slice_index_or, unwrap_or}
use Rattle.packet_times.specs.Durations.{one_frame}
use Rattle.packet_edits.specs.declared.entry.Entry.{Entry}
use Rattle.packet_edits.specs.Edits.{Listing, starting}
use Rattle.packet_edits.specs.Laws.{HaveOwnIds}
use Rattle.packet_edits.specs.Marks.{StoreValue}
use Rattle.edit_history.specs.declared.step.Step.{Step}
use Rattle.edit_history.specs.declared.step.Step.TheVariants.{Packets, Script}
use Rattle.edit_history.specs.Histories.{History, Past, changed_to, drop_times, redo_times, undo_times}
use Rattle.edit_history.specs.Places.{held}
use Rattle.edit_history.specs.Steps.{Content, after_step, way_back}
use Rattle.edit_history.specs.Values.{IsPossibleIn, Made, history_by, packets_after, past_after, past_of}

-- the steps that a history remembers: those to the earlier values, newest first, and those to the values that were undone, the next one to redo first
pub record Remembered : Type 0 where
  pub earlier : List Made
  pub undone : List Step

-- nothing is remembered
abbrev pub nothing : Remembered
nothing = record { earlier = []; undone = [] }

-- the current value with the steps that lead from it
pub record Trail : Type 0 where
  pub now : Content
  pub steps : Remembered

abbrev pub trail_of : Content → Remembered → Trail
trail_of now steps = record { now = now; steps = steps }

-- the history that a trail stands for
abbrev pub history_of : Trail → History Past
history_of trail = history_by trail.steps.earlier trail.steps.undone (past_of trail.now)

-- the step to the newest earlier value is made, and the step back is the next one to redo
abbrev pub undo_step : List Made → Trail → Trail
undo_step [] trail = trail
undo_step (newest ∷ others) trail =
    record { now = after_step newest.step trail.now; steps = record { earlier = others; undone = way_back newest.step trail.now ∷ trail.steps.undone } }

-- the next step to redo is made, and the step back leads to the newest earlier value
abbrev pub redo_step : List Step → Trail → Trail
redo_step [] trail = trail
redo_step (next ∷ others) trail =
    record { now = after_step next trail.now; steps = record { earlier = record { step = way_back next trail.now; before = None } ∷ trail.steps.earlier; undone = others } }

-- the step to the newest earlier value is made, and what was undone when a change was made of that value is undone again
abbrev pub drop_step : List Made → Trail → Trail
drop_step [] trail = trail
drop_step (newest ∷ others) trail =
    record { now = after_step newest.step trail.now; steps = record { earlier = others; undone = unwrap_or newest.before (way_back newest.step trail.now ∷ trail.steps.undone) } }

-- the same n times
abbrev pub undo_steps : ℕ → Trail → Trail
undo_steps zero trail = trail
undo_steps (suc n) trail = undo_steps n (undo_step trail.steps.earlier trail)

abbrev pub redo_steps : ℕ → Trail → Trail
redo_steps zero trail = trail
redo_steps (suc n) trail = redo_steps n (redo_step trail.steps.undone trail)

abbrev pub drop_steps : ℕ → Trail → Trail
drop_steps zero trail = trail
drop_steps (suc n) trail = drop_steps n (drop_step trail.steps.earlier trail)

-- the steps after a change, of which this one leads back
abbrev pub remembering : Step → Remembered → Remembered
remembering step steps = record { earlier = record { step = step; before = Some steps.undone } ∷ steps.earlier; undone = [] }

-- steps are possible of these packets, one after another
abbrev pub AreAllPossible : List Step → List (List Entry) → Type 0
AreAllPossible [] packets = Unit {0}
AreAllPossible (step ∷ steps) packets = IsPossibleIn step packets × AreAllPossible steps (packets_after step packets)

abbrev pub IsBeforePossible : Option (List Step) → List (List Entry) → Type 0
IsBeforePossible None packets = Unit {0}
IsBeforePossible (Some steps) packets = AreAllPossible steps packets

abbrev pub AreMadePossible : List Made → List (List Entry) → Type 0
AreMadePossible [] packets = Unit {0}
AreMadePossible (made ∷ others) packets =
    IsPossibleIn made.step packets × IsBeforePossible made.before (packets_after made.step packets) × AreMadePossible others (packets_after made.step packets)

-- all steps that a history owns
abbrev pub steps_of : List Made → List Step
steps_of [] = []
steps_of (made ∷ others) = made.step ∷ (unwrap_or made.before [] ++ steps_of others)

-- the source that is current after each step exists
abbrev pub HasCurrent : ℕ → Step → Type 0
HasCurrent count (Packets source change current) = current < count
HasCurrent count (Script script current) = current < count

abbrev pub HaveCurrents : ℕ → List Step → Type 0
HaveCurrents count [] = Unit {0}
HaveCurrents count (step ∷ steps) = HasCurrent count step × HaveCurrents count steps

-- the packets of a source; a source that does not exist has none
abbrev pub list_in : List Listing → ℕ → Listing
list_in lists source = slice_index_or lists source (starting 0 one_frame)

abbrev pub entries_of : List Listing → List (List Entry)
entries_of lists = map (λ list. list.entries) lists

-- all steps are possible and lead to sources that exist, and in each source the packets of the list and those that steps own have
-- different ids, below the next one
pub record AreSound (steps : Remembered) (lists : List Listing) : Type 0 where
  pub earlier : AreMadePossible steps.earlier (entries_of lists)
  pub undone : AreAllPossible steps.undone (entries_of lists)
  pub currents : HaveCurrents (length lists) (steps_of steps.earlier ++ steps.undone)
  pub own : (source : ℕ) → source < length lists → HaveOwnIds (list_in lists source).next_id ((list_in lists source).entries ++ held source (steps_of steps.earlier ++ steps.undone))

abbrev pub lists_of : List StoreValue → List Listing
lists_of stores = map (λ store. store.list) stores

-- the steps of a trail are sound, and its current source exists
pub record IsSound (trail : Trail) : Type 0 where
  pub steps : AreSound trail.steps (lists_of trail.now.stores)
  pub current : trail.now.current < length trail.now.stores

-- lists with these packets: the next ids stay, so an id is never given twice
abbrev pub lists_with : List (List Entry) → List Listing → List Listing
lists_with [] lists = lists
lists_with (entries ∷ more) [] = []
lists_with (entries ∷ more) (list ∷ lists) = record list { entries = entries } ∷ lists_with more lists

-- a step back from a change owns the packets that left the lists, and no id is given twice, whatever packets other steps own
abbrev pub OwnsLeft : Step → List Listing → List Listing → Type 0
OwnsLeft step old new = (source : ℕ) → source < length new → (rest : List Entry)
    → HaveOwnIds (list_in old source).next_id ((list_in old source).entries ++ rest) → HaveOwnIds (list_in new source).next_id ((list_in new source).entries ++ (held source (step ∷ []) ++ rest))

-- undo, redo and drop of a trail are those of its history, and a change is a change of it
pub record TrailsAreHistories : Type 0 where
  pub undone : (n : ℕ) (trail : Trail) → IsSound trail → history_of (undo_steps n trail) ≡ undo_times n (history_of trail)
  pub redone : (n : ℕ) (trail : Trail) → IsSound trail → history_of (redo_steps n trail) ≡ redo_times n (history_of trail)
  pub dropped : (n : ℕ) (trail : Trail) → IsSound trail → history_of (drop_steps n trail) ≡ drop_times n (history_of trail)
  pub changed : (step : Step) (new : Content) (trail : Trail) → past_after step (past_of new) ≡ past_of trail.now
      → history_of (trail_of new (remembering step trail.steps)) ≡ changed_to (past_of new) (history_of trail)

-- a trail stays sound: all its steps stay possible, and no two packets get the same id
pub record TrailsStaySound : Type 0 where
  pub begun : (lists : List Listing) → ((source : ℕ) → source < length lists → HaveOwnIds (list_in lists source).next_id (list_in lists source).entries) → AreSound nothing lists
  pub undone : (n : ℕ) (trail : Trail) → IsSound trail → IsSound (undo_steps n trail)
  pub redone : (n : ℕ) (trail : Trail) → IsSound trail → IsSound (redo_steps n trail)
  pub dropped : (n : ℕ) (trail : Trail) → IsSound trail → IsSound (drop_steps n trail)
  pub changed : (step : Step) (steps : Remembered) (old new : List Listing) → AreSound steps old → length new ≡ length old → HasCurrent (length new) step → IsPossibleIn step (entries_of new)
      → packets_after step (entries_of new) ≡ entries_of old → OwnsLeft step old new → AreSound (remembering step steps) new

-- undo, redo and drop change no next id
pub record StepsKeepNextIds : Type 0 where
  pub undone : (n : ℕ) (trail : Trail) → lists_of (undo_steps n trail).now.stores ≡ lists_with (entries_of (lists_of (undo_steps n trail).now.stores)) (lists_of trail.now.stores)
  pub redone : (n : ℕ) (trail : Trail) → lists_of (redo_steps n trail).now.stores ≡ lists_with (entries_of (lists_of (redo_steps n trail).now.stores)) (lists_of trail.now.stores)
  pub dropped : (n : ℕ) (trail : Trail) → lists_of (drop_steps n trail).now.stores ≡ lists_with (entries_of (lists_of (drop_steps n trail).now.stores)) (lists_of trail.now.stores)
