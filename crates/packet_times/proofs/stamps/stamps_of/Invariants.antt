use Rattle.std.proofs.Common.{◌≡◌, map, take}
use Rattle.std.specs.List.{range_with_len}
use Rattle.packet_times.specs.Clocks.{HasShown}
use Rattle.packet_times.specs.Sums.{stamp_at}
use Rattle.packet_times.proofs.stamps.stamps_of.Given as goal

abbrev pub invariant-loop-duration : goal.invariant-loop-duration
invariant-loop-duration l = record {
  clock : HasShown l.fn.head (take l.duration-index l.durations) l.clock;
  stamps : l.stamps.items ≡ map (stamp_at l.fn.head l.durations) (range_with_len 0 l.duration-index);
}
