use Rattle.packet_times.proofs.Near.{times_are_near}
use Rattle.packet_times.proofs.laws.times_are_near.Goals as goal

pub returns : goal.returns
returns c = times_are_near
