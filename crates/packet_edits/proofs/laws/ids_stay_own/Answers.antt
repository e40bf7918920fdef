use Rattle.packet_edits.proofs.Ids.{ids_own}
use Rattle.packet_edits.proofs.laws.ids_stay_own.Goals as goal

pub returns : goal.returns
returns c = ids_own
