use Rattle.webm_files.proofs.NotIvf.{not_marked, not_webm}
use Rattle.webm_files.proofs.laws.ivf_is_not_webm.Goals as goal

pub returns-clause-mark : goal.returns-clause-mark
returns-clause-mark c = not_marked

pub returns-clause-header : goal.returns-clause-header
returns-clause-header c = not_webm
