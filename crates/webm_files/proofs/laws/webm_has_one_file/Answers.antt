use Rattle.webm_files.proofs.OneFile.{one_file}
use Rattle.webm_files.proofs.laws.webm_has_one_file.Goals as goal

pub returns : goal.returns
returns c = one_file
