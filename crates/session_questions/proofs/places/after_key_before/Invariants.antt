use Rattle.std.proofs.Common.{◌≤◌}
use Rattle.session_questions.proofs.places.after_key_before.Given as goal

abbrev pub decreases-keys : goal.decreases-keys
decreases-keys l = l.end

abbrev pub invariant-keys : goal.invariant-keys
invariant-keys l = l.end ≤ l.at
