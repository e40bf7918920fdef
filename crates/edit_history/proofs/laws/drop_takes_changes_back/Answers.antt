use Rattle.edit_history.proofs.Histories.{drop_back}
use Rattle.edit_history.proofs.laws.drop_takes_changes_back.Goals as goal

pub returns : goal.returns
returns c = drop_back
