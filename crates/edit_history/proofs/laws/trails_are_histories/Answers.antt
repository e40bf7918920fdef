use Rattle.edit_history.proofs.Trails.{are_histories}
use Rattle.edit_history.proofs.laws.trails_are_histories.Goals as goal

pub returns : goal.returns
returns c = are_histories
