use Rattle.webm_files.proofs.FewKept.{few_kept}
use Rattle.webm_files.proofs.laws.kept_are_few.Goals as goal

pub returns : goal.returns
returns c = few_kept
