use Rattle.std.proofs.Common.{◌≡◌, ◌+◌, ◌++◌, None, drop, false}
use Rattle.lossless_cuts.specs.Faults.{export_fault, fault_after}
use Rattle.lossless_cuts.specs.Limits.{is_too_large, records_size}
use Rattle.lossless_cuts.specs.Plans.{exported, streams_of}
use Rattle.lossless_cuts.proofs.exports.export_packets.Given as goal

abbrev pub invariant-loop-target : goal.invariant-loop-target
invariant-loop-target l = record {
  packets : l.out.packets.items ++ exported l.tables (streams_of l.stores) l.before (drop l.target-index l.targets) ≡ exported l.tables (streams_of l.stores) None l.targets;
  fault : fault_after l.tables (streams_of l.stores) l.out.packets.items l.before (drop l.target-index l.targets) ≡ export_fault l.tables (streams_of l.stores) l.targets;
  room : l.out.left + records_size l.out.packets.items ≡ 1073741792;
  fits : is_too_large l.out.packets.items ≡ false;
}
