use Rattle.state_cache.proofs.Others.{victim_apart}
use Rattle.state_cache.proofs.Shed.{without_other}
use Rattle.state_cache.proofs.cache.drop_other.Goals as goal

pub returns-clause-shed : goal.returns-clause-shed
returns-clause-shed c =
    without_other c.args.key c.in_ok-newest.newest c.least_other-victim.result c.args.kept.now.entries c.evict.new.kept.entries c.get_index_of.ensures.unique c.in_ok-newest.ensures.index
    (victim_apart c.args.savings.now.list c.args.savings.now.uses c.len.result c.in_ok-newest.newest c.least_other-victim.result c.least_other-victim.ensures.victim) c.evict.ensures.without
