use Rattle.edit_history.proofs.Changes.{all_lead_back}
use Rattle.edit_history.proofs.laws.changes_lead_back.Goals as goal

pub returns : goal.returns
returns c = all_lead_back
