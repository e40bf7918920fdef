use Rattle.state_cache.proofs.WalkSteps.{walks_step_in_order}
use Rattle.state_cache.proofs.laws.walks_step_in_order.Goals as goal

pub returns : goal.returns
returns c = walks_step_in_order
