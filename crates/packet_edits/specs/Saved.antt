-- The packets of a list as a file stores them.
use Rattle.std.specs.Prelude.{ℕ, Bool, true, false, List, map}
use Rattle.std.specs.List.{filter}
use Rattle.frame_header.specs.Padding.{padded}
use Rattle.frame_header.specs.Tags.{is_shown}
use Rattle.stream_files.specs.declared.streams.Head.{Head}
use Rattle.stream_files.specs.declared.packets.Packet.{Packet}
use Rattle.packet_times.specs.Stamps.{stamped}
use Rattle.packet_times.specs.Sums.{stamps_of}
use Rattle.packet_times.specs.declared.durations.Duration.{Duration}
use Rattle.packet_edits.specs.declared.entry.Entry.{Entry}
use Rattle.packet_edits.specs.Edits.{Listing}

-- a packet without its id
abbrev pub packet_of : Entry → Packet
packet_of entry = record { stamp = entry.stamp; bytes = entry.bytes }

-- the packets without their ids
abbrev pub packets_of : Listing → List Packet
packets_of list = map packet_of list.entries

-- a packet without its id, with a byte 00 after it if its last token partition has no byte
abbrev pub padded_packet_of : Entry → Packet
padded_packet_of entry = record { stamp = entry.stamp; bytes = padded entry.bytes }

-- the packets as players that want a byte in the last token partition show them
abbrev pub padded_packets_of : Listing → List Packet
padded_packets_of list = map padded_packet_of list.entries

-- the durations of the frames that packets show
abbrev pub shown_durations : List Entry → List Duration
shown_durations entries = map (λ entry. entry.duration) (filter (λ entry. is_shown entry.bytes) entries)

-- a packet as it is, or with a byte 00 after it if its last token partition has no byte
abbrev pub padded_if : Bool → Packet → Packet
padded_if true packet = record packet { bytes = padded packet.bytes }
padded_if false packet = packet

-- the packets with the time stamps of the frames, by their durations; a hidden packet has that of the next frame
abbrev pub restamped : Bool → Head → List Entry → List Packet
restamped pads head entries = map (padded_if pads) (stamped (stamps_of head (shown_durations entries)) (map (λ entry. entry.bytes) entries))
