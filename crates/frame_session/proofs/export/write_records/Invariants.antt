use Rattle.std.proofs.Common.{map, take}
use Rattle.std.specs.Io.KnownBytes.{Appends}
use Rattle.frame_session.specs.ExportSizes.{padded_packet}
use Rattle.stream_files.specs.Texts.{records_text}
use Rattle.frame_session.proofs.export.write_records.Given as goal

abbrev pub invariant-loop-packet : goal.invariant-loop-packet
invariant-loop-packet g l = Appends (g.W.Write.contents l.fn.w) (g.W.Write.contents l.w) (records_text (map padded_packet (take l.packet-index l.packets)))
