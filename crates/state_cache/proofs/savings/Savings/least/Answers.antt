use Rattle.std.proofs.lemmas.List.{take-map}
use Rattle.state_cache.specs.Evictions.{last_use, saved}
use Rattle.state_cache.proofs.savings.Savings.least.Goals as goal

pub least_of-requires-clause-steps : goal.least_of-requires-clause-steps
least_of-requires-clause-steps c = rw (c.deref-2.ensures.value, c.deref.ensures.value, c.self.invariant.0) (take-map saved c.args.len c.self.inside.list.items)

pub least_of-requires-clause-used : goal.least_of-requires-clause-used
least_of-requires-clause-used c = rw (c.deref-3.ensures.value, c.deref.ensures.value, c.self.invariant.1) (take-map last_use c.args.len c.self.inside.list.items)
