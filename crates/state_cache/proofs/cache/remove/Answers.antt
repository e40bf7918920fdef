use Rattle.state_cache.proofs.Shed.{without_key}
use Rattle.state_cache.proofs.cache.remove.Goals as goal

pub returns-clause-without : goal.returns-clause-without
returns-clause-without c =
    without_key c.args.key c.args.kept.now.entries c.evict.new.kept.entries c.get_index_of-index.result c.get_index_of-index.ensures.unique c.get_index_of-index.ensures.index c.get_index_of-index.ensures.found c.evict.ensures.without
