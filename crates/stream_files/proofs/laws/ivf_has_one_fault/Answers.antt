use Rattle.stream_files.proofs.OneAnswer.{one_fault}
use Rattle.stream_files.proofs.laws.ivf_has_one_fault.Goals as goal

pub returns : goal.returns
returns c = one_fault
