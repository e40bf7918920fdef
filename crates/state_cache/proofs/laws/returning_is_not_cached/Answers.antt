use Rattle.state_cache.proofs.Returned.{returning_not_cached}
use Rattle.state_cache.proofs.laws.returning_is_not_cached.Goals as goal

pub returns : goal.returns
returns c = returning_not_cached
