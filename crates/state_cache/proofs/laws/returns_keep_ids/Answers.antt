use Rattle.state_cache.proofs.Returned.{return_ids_kept}
use Rattle.state_cache.proofs.laws.returns_keep_ids.Goals as goal

pub returns : goal.returns
returns c = return_ids_kept
