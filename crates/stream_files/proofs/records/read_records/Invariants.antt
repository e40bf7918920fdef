use Rattle.std.proofs.Common.{◌≤◌, ◌-◌, drop, length}
use Rattle.stream_files.specs.Ivf.{Records}
use Rattle.stream_files.proofs.records.read_records.Given as goal

abbrev pub invariant-loop-record : goal.invariant-loop-record
invariant-loop-record g l = record {
  so_far : Records (drop l.start (g.B.FileBytes.bytes l.file)) l.packets.items (drop l.at (g.B.FileBytes.bytes l.file));
  inside : l.at ≤ length (g.B.FileBytes.bytes l.file);
}

abbrev pub decreases-loop-record : goal.decreases-loop-record
decreases-loop-record g l = length l.bytes - l.at
