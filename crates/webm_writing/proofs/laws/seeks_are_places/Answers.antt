use Rattle.webm_writing.proofs.Placed.{file_seeks}
use Rattle.webm_writing.proofs.laws.seeks_are_places.Goals as goal

pub returns : goal.returns
returns c = file_seeks
