use Rattle.state_cache.specs.Views.{cached_in}
use Rattle.state_cache.proofs.Shows.{kept_told}
use Rattle.state_cache.proofs.cache.Cache.holds.Goals as goal

pub returns : goal.returns
returns c = rw (← c.self.view_is) (kept_told c.args.store.now.list.entries c.args.store.now.marks (cached_in c.self.inside.kept.entries c.args.source) c.args.place c.id-id.result c.contains_key.result c.requires c.id-id.ensures c.contains_key.ensures)
