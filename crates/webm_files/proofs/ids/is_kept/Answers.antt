use Rattle.webm_files.specs.Kept.{is_kept}
use Rattle.webm_files.proofs.ids.is_kept.Goals as goal

pub returns : goal.returns
unfolding is_kept
returns c = c.contains.ensures.value
