use Rattle.webm_files.proofs.KeptPackets.{packets_kept}
use Rattle.webm_files.proofs.laws.packets_are_kept.Goals as goal

pub returns : goal.returns
returns c = packets_kept
