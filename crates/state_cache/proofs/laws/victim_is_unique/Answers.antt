use Rattle.state_cache.proofs.Victims.{victim_is_unique}
use Rattle.state_cache.proofs.laws.victim_is_unique.Goals as goal

pub returns : goal.returns
returns c = victim_is_unique
