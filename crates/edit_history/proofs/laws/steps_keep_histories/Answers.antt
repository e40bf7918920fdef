use Rattle.edit_history.proofs.Values.{steps_keep_histories}
use Rattle.edit_history.proofs.laws.steps_keep_histories.Goals as goal

pub returns : goal.returns
returns c = steps_keep_histories
