use Rattle.std.proofs.Common.{map, take}
use Rattle.std.specs.Io.KnownBytes.{Appends}
use Rattle.stream_files.specs.Texts.{records_text}
use Rattle.packet_edits.specs.Saved.{padded_packet_of}
use Rattle.packet_edits.proofs.saving.write_padded_records.Given as goal

abbrev pub invariant-loop-i : goal.invariant-loop-i
invariant-loop-i g l = Appends (g.W.Write.contents l.fn.w) (g.W.Write.contents l.w) (records_text (map padded_packet_of (take l.i l.entries)))
