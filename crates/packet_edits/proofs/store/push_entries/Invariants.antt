use Rattle.std.proofs.Common.{◌≡◌, ◌+◌, ◌-◌, ◌≤◌, ◌++◌, drop, length, take}
use Rattle.std.specs.Vec.Iter.{into_iter_items, into_iter_len}
use Rattle.packet_times.specs.Durations.{durations_of}
use Rattle.packet_edits.specs.Edits.{numbered}
use Rattle.packet_edits.proofs.store.push_entries.Given as goal

abbrev pub invariant-loop-packet : goal.invariant-loop-packet
invariant-loop-packet l = record {
  same : l.entries ++ numbered l.fn.usual l.id (into_iter_items l.packet-iterator) ≡ l.fn.entries ++ numbered l.fn.usual l.fn.first_id l.fn.packets;
  counted : l.id + length (into_iter_items l.packet-iterator) ≡ l.fn.first_id + length l.fn.packets;
  length_is : into_iter_len l.packet-iterator ≡ length (into_iter_items l.packet-iterator);
  from : l.fn.first_id ≤ l.id;
  durations : drop (l.id - l.fn.first_id) l.durations.items ≡ durations_of l.fn.usual (into_iter_items l.packet-iterator);
  before : take l.len l.entries ≡ l.fn.entries;
}
