use Rattle.edit_history.proofs.Trails.{keep_next_ids}
use Rattle.edit_history.proofs.laws.steps_keep_next_ids.Goals as goal

pub returns : goal.returns
returns c = keep_next_ids
