use Rattle.webm_writing.proofs.Fitted.{file_fits}
use Rattle.webm_writing.proofs.laws.files_fit.Goals as goal

pub returns : goal.returns
returns c = file_fits
