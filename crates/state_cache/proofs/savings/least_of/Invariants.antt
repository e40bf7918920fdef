use Rattle.std.proofs.Common.{length, ◌-◌, ◌≤◌}
use Rattle.state_cache.specs.ProofsOnly.{Searched}
use Rattle.state_cache.proofs.savings.least_of.Given as goal

abbrev pub invariant-loop-at : goal.invariant-loop-at
invariant-loop-at l = (l.at ≤ length l.savings) × Searched l.savings l.uses l.at l.least.victim l.least.worth.saved l.least.worth.age

abbrev pub decreases-loop-at : goal.decreases-loop-at
decreases-loop-at l = length l.savings - l.at
