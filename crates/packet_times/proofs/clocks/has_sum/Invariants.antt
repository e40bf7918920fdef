use Rattle.std.proofs.Common.{◌≡◌, take, false}
use Rattle.std.specs.List.{list_any}
use Rattle.packet_times.specs.Clocks.{has_base}
use Rattle.packet_times.proofs.clocks.has_sum.Given as goal

abbrev pub invariant-loop-sum : goal.invariant-loop-sum
invariant-loop-sum l = list_any (has_base l.base) (take l.sum-index l.sums) ≡ false
