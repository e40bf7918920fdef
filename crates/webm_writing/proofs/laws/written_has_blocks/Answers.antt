use Rattle.webm_writing.proofs.ReadPieces.{blocks_are}
use Rattle.webm_writing.proofs.laws.written_has_blocks.Goals as goal

pub returns : goal.returns
returns c = blocks_are
