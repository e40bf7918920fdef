use Rattle.state_cache.proofs.Known.{drops_keep_coherence}
use Rattle.state_cache.proofs.laws.drops_keep_coherence.Goals as goal

pub returns : goal.returns
returns c = drops_keep_coherence c.args.tables.now
