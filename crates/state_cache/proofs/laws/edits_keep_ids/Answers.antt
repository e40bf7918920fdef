use Rattle.state_cache.proofs.Progress.{ids_kept}
use Rattle.state_cache.proofs.laws.edits_keep_ids.Goals as goal

pub returns : goal.returns
returns c = ids_kept
