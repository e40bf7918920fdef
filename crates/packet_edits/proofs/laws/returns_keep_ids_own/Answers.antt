use Rattle.packet_edits.proofs.Returns.{keep_own}
use Rattle.packet_edits.proofs.laws.returns_keep_ids_own.Goals as goal

pub returns : goal.returns
returns c = keep_own
