use Rattle.stream_files.proofs.OneAnswer.{one_file}
use Rattle.stream_files.proofs.laws.ivf_has_one_file.Goals as goal

pub returns : goal.returns
returns c = one_file
