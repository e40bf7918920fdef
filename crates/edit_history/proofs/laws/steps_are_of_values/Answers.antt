use Rattle.edit_history.proofs.Values.{steps_are_of_values}
use Rattle.edit_history.proofs.laws.steps_are_of_values.Goals as goal

pub returns : goal.returns
returns c = steps_are_of_values
