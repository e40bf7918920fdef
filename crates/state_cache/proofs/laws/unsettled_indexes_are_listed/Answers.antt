use Rattle.state_cache.proofs.CostLaw.{unsettled_are_listed}
use Rattle.state_cache.proofs.laws.unsettled_indexes_are_listed.Goals as goal

pub returns : goal.returns
returns c = unsettled_are_listed
