use Rattle.packet_times.proofs.Near.{units_add_up}
use Rattle.packet_times.proofs.laws.units_add_up.Goals as goal

pub returns : goal.returns
returns c = units_add_up
