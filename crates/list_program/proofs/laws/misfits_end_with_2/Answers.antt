use Rattle.list_program.proofs.Ended.{misfit}
use Rattle.list_program.proofs.laws.misfits_end_with_2.Goals as goal

pub returns : goal.returns
returns c = misfit
