use Rattle.state_cache.proofs.Returned.{returns_coherent}
use Rattle.state_cache.proofs.laws.returns_keep_coherence.Goals as goal

pub returns : goal.returns
returns c = returns_coherent c.args.tables.now c.only_the_show_bit_changes.ensures.rest c.show_bits_keep_steps.ensures
