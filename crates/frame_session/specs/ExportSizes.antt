-- The packets of an export as they are written, and the size of their IVF file.
use Rattle.std.specs.Prelude.{ℕ, ◌+◌, ◌-◌, ◌^◌, min, List, length, map, sum}
use Rattle.frame_header.specs.Padding.{padded}
use Rattle.stream_files.specs.declared.packets.Packet.{Packet}

-- a packet with a byte 00 after it if its last token partition has no byte
abbrev pub padded_packet : Packet → Packet
padded_packet packet = record packet { bytes = padded packet.bytes }

-- the greatest number that is reported
abbrev pub most_bytes : ℕ
most_bytes = 2 ^ 64 - 1

-- the bytes of the record of a packet
abbrev pub record_bytes : Packet → ℕ
record_bytes packet = min (length (padded_packet packet).bytes + 12) most_bytes

-- the bytes of a file of packets: a header of 32 and the records
abbrev pub saved_bytes : List Packet → ℕ
saved_bytes packets = min (32 + sum (map record_bytes packets)) most_bytes
