use Rattle.std.proofs.Common.{◌≡◌, ◌+◌, ◌≤◌, List, length}
use Rattle.stream_files.specs.declared.packets.Packet.{Packet}
use Rattle.stream_files.specs.Ivf.{Records}
use Rattle.explanations.proofs.files.whole_records.Given as goal

abbrev pub invariant-loop-following : goal.invariant-loop-following
invariant-loop-following l = record {
  packets : List Packet;
  so_far : Records l.text packets l.rest;
  counted : length packets ≡ l.count;
  few : l.count + length l.rest ≤ length l.text;
}

abbrev pub decreases-loop-following : goal.decreases-loop-following
decreases-loop-following l = length l.rest
