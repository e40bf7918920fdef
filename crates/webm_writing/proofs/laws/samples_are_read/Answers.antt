use Rattle.webm_writing.proofs.Sampled.{file_has}
use Rattle.webm_writing.proofs.laws.samples_are_read.Goals as goal

pub returns : goal.returns
returns c = file_has
