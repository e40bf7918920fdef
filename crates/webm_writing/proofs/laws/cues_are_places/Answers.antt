use Rattle.webm_writing.proofs.Placed.{file_cues}
use Rattle.webm_writing.proofs.laws.cues_are_places.Goals as goal

pub returns : goal.returns
returns c = file_cues
