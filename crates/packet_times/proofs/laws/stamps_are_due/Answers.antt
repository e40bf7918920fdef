use Rattle.packet_times.proofs.Near.{stamps_are_due}
use Rattle.packet_times.proofs.laws.stamps_are_due.Goals as goal

pub returns : goal.returns
returns c = stamps_are_due
