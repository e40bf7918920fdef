use Rattle.state_cache.specs.Reaching.{view_of}
use Rattle.state_cache.proofs.Found.{next_found}
use Rattle.state_cache.proofs.cache.Cache.next_step.Goals as goal

pub returns : goal.returns
returns c =
    next_found c.args.store.now.list.entries c.args.store.now.marks (view_of c.args.source c.args.self.now) c.prove_few.ensures.marks c.args.place c.next_after-first.result c.unwrap_or-from.result c.unwrap_or.result c.next_after.result
    c.last_key-key.result c.next_mark-mark.result c.last_cached-found.result c.requires c.last_key-key.ensures c.next_after-first.ensures c.next_mark-mark.ensures c.unwrap_or-from.ensures c.unwrap_or.ensures c.last_cached-found.ensures c.next_after.ensures
