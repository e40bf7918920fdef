use Rattle.state_cache.proofs.Shed.{counted_within}
use Rattle.state_cache.proofs.cache.Cache.prove_few.Goals as goal

pub returns-clause-within : goal.returns-clause-within
returns-clause-within c = rw (← c.self.view_is) (counted_within c.self.inside.capacity.bytes c.self.inside.bytes c.self.inside.kept.entries c.self.invariant.3)
