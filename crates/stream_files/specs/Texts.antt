-- The text of an IVF file, in full.
use Rattle.std.specs.Prelude.{◌≡◌, ℕ, ◌+◌, ◌^◌, ◌<◌, ◌≤◌, List, [], ◌∷◌, ◌++◌, length, codes, slice_index}
use Rattle.std.specs.List.{flat_map}
use Rattle.byteorder.specs.Endian.{little_bytes}
use Rattle.stream_files.specs.declared.packets.Packet.{Packet}
use Rattle.stream_files.specs.declared.packets.TheConstants.{MAX_PACKETS}
use Rattle.stream_files.specs.declared.streams.Head.{Head}
use Rattle.stream_files.specs.declared.streams.Stream.{Stream}
use Rattle.stream_files.specs.Streams.{rate_of}
use Rattle.stream_files.specs.Ivf.{HasRecord, IsIvf}

-- a list of numbers that are bytes
abbrev pub IsBytes : List ℕ → Type 0
IsBytes bytes = (i : ℕ) → slice_index bytes i < 256

-- the record of a packet: its size, its time stamp and its bytes
abbrev pub record_text : Packet → List ℕ
record_text packet = little_bytes 4 (length packet.bytes) ++ little_bytes 8 packet.stamp ++ packet.bytes

-- the records of packets in sequence
abbrev pub records_text : List Packet → List ℕ
records_text packets = flat_map record_text packets

-- the fields of a header with this version, this length and this number of packets
abbrev pub fields_text : ℕ → ℕ → Head → ℕ → List ℕ
fields_text version len head count =
    codes "DKIF" ++ little_bytes 2 version ++ little_bytes 2 len ++ codes "VP80" ++ little_bytes 2 head.width ++ little_bytes 2 head.height ++ little_bytes 4 head.rate ++ little_bytes 4 head.scale ++ little_bytes 4 count

-- the header as it is written: version 0, length 32, the number of packets, and four unused bytes of 0
abbrev pub header_text : Head → ℕ → List ℕ
header_text head count = fields_text 0 32 head count ++ little_bytes 4 0

-- the whole text that is written for a head and packets
abbrev pub written_text : Head → List Packet → List ℕ
written_text head packets = header_text head (length packets) ++ records_text packets

-- a packet fits a record
pub record PacketFits (packet : Packet) : Type 0 where
  pub size : length packet.bytes < 2 ^ 32
  pub stamp : packet.stamp < 2 ^ 64

abbrev pub PacketsFit : List Packet → Type 0
PacketsFit [] = Unit {0}
PacketsFit (packet ∷ packets) = PacketFits packet × PacketsFit packets

-- the numbers of a header fit its fields
pub record FieldsFit (reported len : ℕ) (head : Head) (packets : ℕ) : Type 0 where
  pub version : reported < 2 ^ 16
  pub header : len < 2 ^ 16
  pub width : head.width < 2 ^ 16
  pub height : head.height < 2 ^ 16
  pub rate : head.rate < 2 ^ 32
  pub scale : head.scale < 2 ^ 32
  pub count : packets < 2 ^ 32

-- the bytes are a header of this file, four unused bytes or more, the records of its packets, and a rest that begins
-- with no whole record
pub record IsIvfText (bytes : List ℕ) (file : Stream) : Type 0 where
  pub version : ℕ
  pub count : ℕ
  pub unused : List ℕ
  pub rest : List ℕ
  pub spelled : bytes ≡ fields_text version (28 + length unused) file.head count ++ unused ++ records_text file.packets ++ rest
  pub fields : FieldsFit version (28 + length unused) file.head count
  pub packets : PacketsFit file.packets
  pub frame_rate : file.frame_rate ≡ rate_of file.head
  pub least : 4 ≤ length unused
  pub over : ¬ HasRecord rest
  pub spare : file.spare ≡ length rest
  pub few : length file.packets ≤ MAX_PACKETS

-- the file with this head, these packets and no trailing bytes
abbrev pub file_of : Head → List Packet → Stream
file_of head packets = record { head = head; frame_rate = rate_of head; packets = packets; spare = 0 }

-- reading what was written returns the same head, the same packets and no trailing bytes
abbrev pub WrittenIsRead : Type 0
WrittenIsRead = (head : Head) (packets : List Packet) → FieldsFit 0 32 head (length packets) → PacketsFit packets → length packets ≤ MAX_PACKETS → IsIvf (written_text head packets) (file_of head packets)
