use Rattle.std.proofs.Common.{◌≡◌, ◌++◌, map, take, drop}
use Rattle.packet_times.specs.Clocks.{added}
use Rattle.packet_times.proofs.clocks.add_to.Given as goal

abbrev pub invariant-loop-at : goal.invariant-loop-at
invariant-loop-at l = l.sums.items ≡ map (added l.duration) (take l.at l.fn.sums.items) ++ drop l.at l.fn.sums.items
