use Rattle.state_cache.specs.ProofsOnly.{Searched}
use Rattle.state_cache.proofs.savings.least_in.Given as goal

abbrev pub invariant-loop-index : goal.invariant-loop-index
invariant-loop-index l = Searched l.savings l.uses l.index l.least.victim l.least.worth.saved l.least.worth.age
