-- A text that is written for a head and packets is read as the same.
use Rattle.std.proofs.Common.{◌≤◌, List, [], ◌++◌, length, refl, sym, arith, append-nil}
use Rattle.byteorder.specs.Endian.{little_bytes}
use Rattle.stream_files.specs.declared.packets.Packet.{Packet}
use Rattle.stream_files.specs.declared.packets.TheConstants.{MAX_PACKETS}
use Rattle.stream_files.specs.declared.streams.Head.{Head}
use Rattle.stream_files.specs.Texts.{FieldsFit, PacketsFit, IsIvfText, WrittenIsRead, file_of, written_text, records_text, header_text}
use Rattle.stream_files.proofs.Headers.{text_is_ivf}

written_is_text : (head : Head) (packets : List Packet) → FieldsFit 0 32 head (length packets) → PacketsFit packets → length packets ≤ MAX_PACKETS → IsIvfText (written_text head packets) (file_of head packets)
written_is_text head packets fields fit few = record {
  version = 0;
  count = length packets;
  unused = little_bytes 4 0;
  rest = [];
  spelled = sym (append-nil (header_text head (length packets) ++ records_text packets));
  fields = fields;
  packets = fit;
  least = omega arith;
  over = λ has. absurd (omega (arith, has));
  spare = refl;
  frame_rate = refl;
  few = few;
}

pub written_is_read : WrittenIsRead
written_is_read head packets fields fit few = text_is_ivf (written_text head packets) (file_of head packets) (written_is_text head packets fields fit few)
