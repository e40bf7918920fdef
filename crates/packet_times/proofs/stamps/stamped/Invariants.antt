use Rattle.std.proofs.Common.{◌≡◌, ◌++◌}
use Rattle.std.specs.Vec.Iter.{into_iter_items}
use Rattle.packet_times.specs.Stamps.{stamped}
use Rattle.packet_times.proofs.stamps.stamped.Given as goal

abbrev pub invariant-loop-bytes : goal.invariant-loop-bytes
invariant-loop-bytes l = l.out.items ++ stamped l.left (into_iter_items l.bytes-iterator) ≡ stamped l.fn.stamps l.fn.packets.items
