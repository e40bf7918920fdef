use Rattle.state_cache.proofs.Victims.{worked_victims}
use Rattle.state_cache.proofs.laws.worked_victims.Goals as goal

pub returns : goal.returns
returns c = worked_victims
