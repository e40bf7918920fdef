use Rattle.std.proofs.Common.{◌≡◌, take}
use Rattle.edit_history.specs.Places.{with_places}
use Rattle.edit_history.proofs.places.make_places.Given as goal

abbrev pub invariant-loop-i : goal.invariant-loop-i
invariant-loop-i l = l.stores ≡ with_places (take l.i l.steps) l.fn.stores
