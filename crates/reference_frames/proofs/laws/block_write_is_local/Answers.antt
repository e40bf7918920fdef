use Rattle.reference_frames.proofs.Flat.{block_write_local}
use Rattle.reference_frames.proofs.laws.block_write_is_local.Goals as goal

pub returns : goal.returns
returns c = block_write_local
