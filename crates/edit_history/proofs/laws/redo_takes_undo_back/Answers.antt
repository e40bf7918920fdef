use Rattle.edit_history.proofs.Histories.{redo_back}
use Rattle.edit_history.proofs.laws.redo_takes_undo_back.Goals as goal

pub returns : goal.returns
returns c = redo_back
