use Rattle.std.proofs.Common.{◌≡◌, drop}
use Rattle.stream_facts.specs.Facts.{first_key_size}
use Rattle.stream_facts.proofs.facts.first_key_size.Given as goal

abbrev pub invariant-loop-packet : goal.invariant-loop-packet
invariant-loop-packet l = first_key_size (drop l.packet-index l.packets) ≡ first_key_size l.packets
