use Rattle.state_cache.proofs.Edited.{coherence_kept}
use Rattle.state_cache.proofs.laws.edits_keep_coherence.Goals as goal

pub returns : goal.returns
returns c = coherence_kept c.args.tables.now c.only_the_show_bit_changes.ensures.rest c.show_bits_keep_steps.ensures
