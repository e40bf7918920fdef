-- The values that steps lead to.
use Rattle.std.specs.Prelude.{◌≡◌, ℕ, ◌<◌, List, [], ◌∷◌, length, map, option_map, slice_index_or, slice_set, Option, Some, None}
use Rattle.packet_edits.specs.declared.entry.Entry.{Entry}
use Rattle.edit_history.specs.declared.step.Step.{Step}
use Rattle.edit_history.specs.declared.step.Step.TheVariants.{Packets, Script}
use Rattle.edit_history.specs.Changes.{IsPossible, back, changed}
use Rattle.edit_history.specs.Histories.{Earlier, History, Past, changed_to, drop_from, redo_from, undo_from}
use Rattle.edit_history.specs.Steps.{Content, IsPossibleStep, after_step, way_back}

-- the packets of a source; a source that does not exist has none
abbrev pub packets_at : List (List Entry) → ℕ → List Entry
packets_at packets source = slice_index_or packets source []

-- the packets of all sources after a step
abbrev pub packets_after : Step → List (List Entry) → List (List Entry)
packets_after (Packets source change current) packets = slice_set packets source (changed change (packets_at packets source))
packets_after (Script script current) packets = packets

-- a step is possible of these packets
abbrev pub IsPossibleIn : Step → List (List Entry) → Type 0
IsPossibleIn (Packets source change current) packets = (source < length packets) × IsPossible change (packets_at packets source)
IsPossibleIn (Script script current) packets = Unit {0}

-- the value after a step, the step that leads back, and whether a step is possible
abbrev pub past_after : Step → Past → Past
past_after (Packets source change current) past = record past { packets = packets_after (Packets source change current) past.packets; current = current }
past_after (Script script current) past = record past { script = script; current = current }

abbrev pub past_back : Step → Past → Step
past_back (Packets source change current) past = Packets source (back change (packets_at past.packets source)) past.current
past_back (Script script current) past = Script past.script past.current

abbrev pub IsPossibleOf : Step → Past → Type 0
IsPossibleOf step past = IsPossibleIn step past.packets

-- what edits and scripts change of a value, without marks and next ids
abbrev pub past_of : Content → Past
past_of now = record { packets = map (λ store. store.list.entries) now.stores; script = now.script; current = now.current }

-- a step to an earlier value, with the steps that led to what was undone when a change was made of that value
pub record Made : Type 0 where
  pub step : Step
  pub before : Option (List Step)

-- the values that steps lead to, one after another
abbrev pub values_by : List Step → Past → List Past
values_by [] past = []
values_by (step ∷ steps) past = past_after step past ∷ values_by steps (past_after step past)

-- the earlier values, newest first
abbrev pub earlier_by : List Made → Past → List (Earlier Past)
earlier_by [] past = []
earlier_by (made ∷ others) past =
    let value = past_after made.step past in
    record { value = value; undone = option_map (λ steps. values_by steps value) made.before } ∷ earlier_by others value

-- the history of a value, by the steps to earlier values, newest first, and to those that were undone, the next one to redo first
abbrev pub history_by : List Made → List Step → Past → History Past
history_by earlier undone past = record { now = past; earlier = earlier_by earlier past; undone = values_by undone past }

-- a step leads back
pub record StepsLeadBack : Type 0 where
  pub leads_back : (step : Step) (past : Past) → IsPossibleOf step past → past_after (past_back step past) (past_after step past) ≡ past
  pub possible : (step : Step) (past : Past) → IsPossibleOf step past → IsPossibleOf (past_back step past) (past_after step past)

-- steps of lists with marks are those of values
pub record StepsAreOfValues : Type 0 where
  pub after : (step : Step) (now : Content) → past_of (after_step step now) ≡ past_after step (past_of now)
  pub back : (step : Step) (now : Content) → way_back step now ≡ past_back step (past_of now)
  pub possible : (step : Step) (now : Content) → IsPossibleOf step (past_of now) → IsPossibleStep step now

-- an undo, a redo, a change and a drop of a history are those of its values
pub record StepsKeepHistories : Type 0 where
  pub undone : (made : Made) (earlier : List Made) (undone : List Step) (past : Past) → IsPossibleOf made.step past
      → history_by earlier (past_back made.step past ∷ undone) (past_after made.step past) ≡ undo_from (earlier_by (made ∷ earlier) past) (history_by (made ∷ earlier) undone past)
  pub redone : (step : Step) (earlier : List Made) (undone : List Step) (past : Past) → IsPossibleOf step past
      → history_by (record { step = past_back step past; before = None } ∷ earlier) undone (past_after step past) ≡ redo_from (values_by (step ∷ undone) past) (history_by earlier (step ∷ undone) past)
  pub changed : (step : Step) (earlier : List Made) (undone : List Step) (past new : Past) → past_after step new ≡ past
      → history_by (record { step = step; before = Some undone } ∷ earlier) [] new ≡ changed_to new (history_by earlier undone past)
  pub dropped : (step : Step) (before : List Step) (earlier : List Made) (undone : List Step) (past : Past)
      → history_by earlier before (past_after step past) ≡ drop_from (earlier_by (record { step = step; before = Some before } ∷ earlier) past) (history_by (record { step = step; before = Some before } ∷ earlier) undone past)
