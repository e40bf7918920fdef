use Rattle.edit_history.proofs.Values.{steps_lead_back}
use Rattle.edit_history.proofs.laws.steps_lead_back.Goals as goal

pub returns : goal.returns
returns c = steps_lead_back
