use Rattle.state_cache.proofs.Shows.{mark_told}
use Rattle.state_cache.proofs.cache.is_marked.Goals as goal

pub returns : goal.returns
returns c = mark_told c.args.store.now.list.entries c.args.store.now.marks c.args.place c.marked.result c.requires c.marked.ensures
