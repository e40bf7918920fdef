use Rattle.std.proofs.Common.{◌≡◌, length, drop}
use Rattle.packet_times.specs.Durations.{durations_of, next_stamp}
use Rattle.packet_times.proofs.durations.durations_of.Given as goal

abbrev pub invariant-loop-place : goal.invariant-loop-place
invariant-loop-place l = record {
  len : length l.durations.items ≡ length l.packets;
  done : drop l.place l.durations.items ≡ durations_of l.usual (drop l.place l.packets);
  next : l.next ≡ next_stamp (drop l.place l.packets);
}
