use Rattle.std.proofs.Common.{◌≡◌, ◌++◌, false, map, take}
use Rattle.packet_edits.proofs.store.push_marks.Given as goal

abbrev pub invariant-loop-packet : goal.invariant-loop-packet
invariant-loop-packet l = l.marks ≡ l.fn.marks ++ map (λ packet. false) (take l._packet-index l.packets)
