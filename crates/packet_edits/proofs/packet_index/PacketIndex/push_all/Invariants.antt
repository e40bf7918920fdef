use Rattle.std.proofs.Common.{◌≡◌, take}
use Rattle.packet_edits.specs.Indexes.{appended_to}
use Rattle.packet_edits.proofs.packet_index.PacketIndex.push_all.Given as goal

abbrev pub invariant-loop-packet : goal.invariant-loop-packet
invariant-loop-packet l = l.self ≡ appended_to (take l.packet-index l.packets) l.fn.self
