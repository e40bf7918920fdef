use Rattle.std.proofs.Common.{◌≡◌, All, take}
use Rattle.packet_times.specs.Heads.{IsPositive}
use Rattle.packet_times.specs.Sums.{bases_of}
use Rattle.packet_times.proofs.heads.bases_of.Given as goal

abbrev pub invariant-loop-duration : goal.invariant-loop-duration
invariant-loop-duration l = record {
  bases : l.bases.items ≡ bases_of (take l.duration-index l.durations);
  positive : All IsPositive l.bases.items;
}
