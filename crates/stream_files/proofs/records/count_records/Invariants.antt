use Rattle.std.proofs.Common.{◌≡◌, ◌≤◌, List, length}
use Rattle.stream_files.specs.declared.packets.Packet.{Packet}
use Rattle.stream_files.specs.declared.packets.TheConstants.{MAX_PACKETS}
use Rattle.stream_files.specs.Ivf.{Records}
use Rattle.stream_files.proofs.records.count_records.Given as goal

abbrev pub invariant-loop-record : goal.invariant-loop-record
invariant-loop-record l = record {
  packets : List Packet;
  so_far : Records l.text packets l.rest;
  counted : length packets ≡ l.count;
  few : l.count ≤ MAX_PACKETS;
}

abbrev pub decreases-loop-record : goal.decreases-loop-record
decreases-loop-record l = length l.rest
