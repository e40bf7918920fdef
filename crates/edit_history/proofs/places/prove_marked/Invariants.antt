use Rattle.std.proofs.Common.{◌≡◌, ℕ, ◌<◌, length}
use Rattle.edit_history.specs.Steps.{store_at}
use Rattle.edit_history.proofs.places.prove_marked.Given as goal

abbrev pub invariant-loop-i : goal.invariant-loop-i
invariant-loop-i l = (source : ℕ) → source < l.i → length (store_at l.stores source).marks ≡ length (store_at l.stores source).list.entries
