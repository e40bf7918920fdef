use Rattle.packet_edits.proofs.Returns.{restore}
use Rattle.packet_edits.proofs.laws.returns_restore.Goals as goal

pub returns : goal.returns
returns c = restore
