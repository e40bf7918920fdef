use Rattle.std.proofs.Common.{◌≡◌}
use Rattle.session_questions.specs.Places.{position_at}
use Rattle.session_questions.proofs.places.begins_before.Given as goal

abbrev pub invariant-loop-place : goal.invariant-loop-place
invariant-loop-place l = l.begins ≡ (position_at l.store.list l.place).begins
