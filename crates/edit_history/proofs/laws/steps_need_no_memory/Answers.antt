use Rattle.edit_history.proofs.Travels.{no_memory}
use Rattle.edit_history.proofs.laws.steps_need_no_memory.Goals as goal

pub returns : goal.returns
returns c = no_memory
