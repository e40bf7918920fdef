use Rattle.state_cache.proofs.Progress.{next_not_kept}
use Rattle.state_cache.proofs.laws.next_id_is_not_cached.Goals as goal

pub returns : goal.returns
returns c = next_not_kept
