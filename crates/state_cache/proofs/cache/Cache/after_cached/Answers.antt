use Rattle.state_cache.specs.Reaching.{view_of}
use Rattle.state_cache.proofs.Found.{after_found}
use Rattle.state_cache.proofs.cache.Cache.after_cached.Goals as goal

pub returns : goal.returns
returns c =
    after_found c.args.store.now.list.entries c.args.store.now.marks (view_of c.args.source c.args.self.now) c.prove_few.ensures.marks c.args.first c.args.place c.unwrap_or-run.result c.unwrap_or.result c.unwrap_or-2.result
    c.next_key-key.result c.next_mark-mark.result c.last_cached-last.result c.requires.within.0 c.requires.kept c.next_key-key.ensures c.unwrap_or-run.ensures c.next_mark-mark.ensures c.unwrap_or.ensures c.last_cached-last.ensures c.unwrap_or-2.ensures
