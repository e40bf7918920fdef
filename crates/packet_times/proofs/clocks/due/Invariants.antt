use Rattle.std.proofs.Common.{◌≡◌, ◌-◌, ◌^◌, min, take, sum_by}
use Rattle.packet_times.specs.Clocks.{in_units}
use Rattle.packet_times.proofs.clocks.due.Given as goal

abbrev pub invariant-loop-sum : goal.invariant-loop-sum
invariant-loop-sum l = l.due ≡ min (2 ^ 64 - 1) (sum_by (in_units l.to) (take l.sum-index l.sums))
