use Rattle.webm_writing.proofs.ReadPieces.{walk_is}
use Rattle.webm_writing.proofs.laws.written_is_walked.Goals as goal

pub returns : goal.returns
returns c = walk_is
