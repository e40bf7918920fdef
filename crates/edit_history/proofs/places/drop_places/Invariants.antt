use Rattle.std.proofs.Common.{◌≡◌, List, take}
use Rattle.packet_edits.specs.Marks.{StoreValue}
use Rattle.edit_history.specs.Places.{ArePlaceable, with_places}
use Rattle.edit_history.proofs.places.drop_places.Given as goal

abbrev pub invariant-loop-i : goal.invariant-loop-i
invariant-loop-i l = (before : List StoreValue) → ArePlaceable l.steps before → l.fn.stores ≡ with_places l.steps before → l.stores ≡ with_places (take l.i l.steps) before
