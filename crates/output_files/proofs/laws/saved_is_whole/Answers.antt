use Rattle.output_files.proofs.Saves.{saved_never_lost}
use Rattle.output_files.proofs.laws.saved_is_whole.Goals as goal

pub returns-clause-never_lost : goal.returns-clause-never_lost
returns-clause-never_lost c = saved_never_lost
