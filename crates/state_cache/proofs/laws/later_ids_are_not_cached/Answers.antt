use Rattle.state_cache.proofs.Progress.{later_not_kept}
use Rattle.state_cache.proofs.laws.later_ids_are_not_cached.Goals as goal

pub returns : goal.returns
returns c = later_not_kept
