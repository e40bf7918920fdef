use Rattle.state_cache.proofs.WalkSteps.{next_is_unique}
use Rattle.state_cache.proofs.laws.next_is_unique.Goals as goal

pub returns : goal.returns
returns c = next_is_unique
