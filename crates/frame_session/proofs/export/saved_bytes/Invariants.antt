use Rattle.std.proofs.Common.{◌≡◌, take}
use Rattle.frame_session.specs.ExportSizes.{saved_bytes}
use Rattle.frame_session.proofs.export.saved_bytes.Given as goal

abbrev pub invariant-loop-packet : goal.invariant-loop-packet
invariant-loop-packet l = l.size ≡ saved_bytes (take l.packet-index l.packets)
