use Rattle.std.proofs.Common.{◌≡◌, drop}
use Rattle.stream_checks.specs.Packets.{is_unshown}
use Rattle.stream_checks.proofs.packets.is_unshown.Given as goal

abbrev pub invariant-loop-packet : goal.invariant-loop-packet
invariant-loop-packet l = is_unshown (drop l.packet-index l.rest) ≡ is_unshown l.rest
