use Rattle.webm_files.proofs.OneFile.{one_fault}
use Rattle.webm_files.proofs.laws.webm_has_one_fault.Goals as goal

pub returns : goal.returns
returns c = one_fault
