use Rattle.packet_forge.proofs.HoldStep.{hold_shows_last}
use Rattle.packet_forge.proofs.laws.hold_shows_last.Goals as goal

pub returns : goal.returns
returns c = hold_shows_last
