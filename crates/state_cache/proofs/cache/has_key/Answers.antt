use Rattle.state_cache.proofs.Shows.{key_tag_told}
use Rattle.state_cache.proofs.cache.has_key.Goals as goal

pub returns : goal.returns
returns c = key_tag_told c.args.store.now.list.entries c.args.store.now.marks c.args.place c.has_key_tag.result c.has_key_tag.ensures
