-- Earlier values, and values that were undone. For example, after the values 1, 2 and 3, `undo` makes 2 current, and 3 is what was
-- undone: `redo` makes 3 current again, and another change to 4 leaves 1 and 2 as earlier values and nothing to redo.
use Rattle.std.specs.Prelude.{◌≡◌, ℕ, zero, suc, List, [], ◌∷◌, length, map, nat_lt, if◌then◌else◌, Option, Some, None, unwrap_or}
use Rattle.packet_edits.specs.declared.entry.Entry.{Entry}
use Rattle.script_nodes.specs.declared.nodes.Node.{Node}

-- an earlier value. If a change was made of it, it has what was undone then, the next one to redo first; if a redo was made, it has nothing
pub record Earlier (V : Type 0) : Type 0 where
  pub value : V
  pub undone : Option (List V)

-- the current value, the earlier ones, newest first, and those that were undone, the next one to redo first
pub record History (V : Type 0) : Type 0 where
  pub now : V
  pub earlier : List (Earlier V)
  pub undone : List V

module _ {V : Type 0} where
  -- one value
  abbrev pub begun_with : V → History V
  begun_with value = record { now = value; earlier = []; undone = [] }

  -- a change: the value before it is the newest earlier one, and nothing is left to redo
  abbrev pub changed_to : V → History V → History V
  changed_to value history = record { now = value; earlier = record { value = history.now; undone = Some history.undone } ∷ history.earlier; undone = [] }

  -- a change for which there is no room: it is made, and nothing is left to undo
  abbrev pub changed_without : V → History V → History V
  changed_without value history = begun_with value

  -- the newest earlier value is current, and the value before that is the next one to redo
  abbrev pub undo_from : List (Earlier V) → History V → History V
  undo_from [] history = history
  undo_from (newest ∷ others) history = record { now = newest.value; earlier = others; undone = history.now ∷ history.undone }

  -- the next value to redo is current
  abbrev pub redo_from : List V → History V → History V
  redo_from [] history = history
  redo_from (next ∷ others) history = record { now = next; earlier = record { value = history.now; undone = None } ∷ history.earlier; undone = others }

  -- the newest earlier value is current, and what was undone when a change was made of it is undone again: the value before that is gone;
  -- if a redo was made of it, this is an undo
  abbrev pub drop_from : List (Earlier V) → History V → History V
  drop_from [] history = history
  drop_from (newest ∷ others) history = record { now = newest.value; earlier = others; undone = unwrap_or newest.undone (history.now ∷ history.undone) }

  -- the same n times
  abbrev pub undo_times : ℕ → History V → History V
  undo_times zero history = history
  undo_times (suc n) history = undo_times n (undo_from history.earlier history)

  abbrev pub redo_times : ℕ → History V → History V
  redo_times zero history = history
  redo_times (suc n) history = redo_times n (redo_from history.undone history)

  abbrev pub drop_times : ℕ → History V → History V
  drop_times zero history = history
  drop_times (suc n) history = drop_times n (drop_from history.earlier history)

  -- the history after `undo n`, `redo n` and `drop n`, if there are so many values
  abbrev pub undo : ℕ → History V → Option (History V)
  undo n history = if nat_lt (length history.earlier) n then None else Some (undo_times n history)

  abbrev pub redo : ℕ → History V → Option (History V)
  redo n history = if nat_lt (length history.undone) n then None else Some (redo_times n history)

  abbrev pub drop : ℕ → History V → Option (History V)
  drop n history = if nat_lt (length history.earlier) n then None else Some (drop_times n history)

  -- several changes, the first one first
  abbrev pub changed_by : List V → History V → History V
  changed_by [] history = history
  changed_by (value ∷ values) history = changed_by values (changed_to value history)

  -- the earlier values, newest first
  abbrev pub values_of : List (Earlier V) → List V
  values_of earlier = map (λ entry. entry.value) earlier

-- what an edit or a script changes: the packets of each source, the script, and the current source
pub record Past : Type 0 where
  pub packets : List (List Entry)
  pub script : List Node
  pub current : ℕ

-- a redo takes an undo back: the same value is current, after the same earlier ones, and the same are left to redo
abbrev pub RedoTakesUndoBack : Type 0
RedoTakesUndoBack = (history : History Past) (newest : Earlier Past) (others : List (Earlier Past)) → history.earlier ≡ newest ∷ others
    → let back = redo_from (undo_from history.earlier history).undone (undo_from history.earlier history) in
    (back.now ≡ history.now) × (values_of back.earlier ≡ values_of history.earlier) × (back.undone ≡ history.undone)

-- after n changes `drop n` leaves what was before them, with what was undone then
abbrev pub DropTakesChangesBack : Type 0
DropTakesChangesBack = (history : History Past) (values : List Past) → drop_times (length values) (changed_by values history) ≡ history

-- three changes of numbers
abbrev pub numbers : History ℕ
numbers = changed_by (1 ∷ 2 ∷ 3 ∷ []) (begun_with 0)
