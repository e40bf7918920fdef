use Rattle.std.proofs.Common.{◌≡◌, ◌++◌, drop}
use Rattle.stream_checks.specs.Stamps.{shown_stamps}
use Rattle.stream_checks.proofs.stamps.shown_stamps.Given as goal

abbrev pub invariant-loop-packet : goal.invariant-loop-packet
invariant-loop-packet l = l.stamps.items ++ shown_stamps (drop l.packet-index l.packets) ≡ shown_stamps l.packets
