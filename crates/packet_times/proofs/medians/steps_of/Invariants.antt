use Rattle.std.proofs.Common.{◌≡◌, ◌++◌, drop}
use Rattle.packet_times.specs.Medians.{steps_from, steps_of}
use Rattle.packet_times.proofs.medians.steps_of.Given as goal

abbrev pub invariant-loop-packet : goal.invariant-loop-packet
invariant-loop-packet l = l.steps.items ++ steps_from l.before (drop l.packet-index l.packets) ≡ steps_of l.packets
