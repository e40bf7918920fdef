-- The facts of a packet, by the headers of the packets before it.
use Rattle.std.specs.Prelude.{ℕ, ◌+◌, ◌-◌, ◌^◌, ◌==◌, ◌&&◌, ◌||◌, Bool, true, false, not, if◌then◌else◌, List, [], ◌∷◌, is_ok, length, min, Option, Some, None, Result, Ok, Err}
use Rattle.std.specs.Int.{from_bool}
use Rattle.std.specs.Option.{option_or}
use Rattle.stream_files.specs.declared.packets.Packet.{Packet}
use Rattle.frame_header.specs.declared.cause.Cause.{Cause}
use Rattle.frame_header.specs.declared.cause.Cause.TheVariants.{NoKeyFrame}
use Rattle.frame_header.specs.declared.outline.Outline.{Outline}
use Rattle.frame_header.specs.Outlines.{key_scales_of, outline_of}
use Rattle.frame_header.specs.Tags.{has_key_tag, tag_of, key_size_of, is_shown}
use Rattle.stream_facts.specs.declared.facts.Facts.{Facts}
use Rattle.stream_facts.specs.declared.facts.Position.{Position}

abbrev pub fields_in : Result Outline Cause → Result (Option Outline) Cause
fields_in (Ok outline) = Ok (Some outline)
fields_in (Err cause) = Err cause

-- a packet of no bytes repeats the frame before it, as in decoding; without one it is refused
abbrev pub repeated : Bool → Result (Option Outline) Cause
repeated follows = if follows then Ok None else Err NoKeyFrame

-- the outline of a packet's header, or the first cause against it: those of its header after any context (`laws::outlines_are_headers` of frame_header)
abbrev pub header_facts : Bool → List ℕ → Result (Option Outline) Cause
header_facts follows bytes = if length bytes == 0 then repeated follows else fields_in (outline_of follows bytes)

-- whether a header was accepted by then
abbrev pub follows_by : Bool → Result Outline Cause → Bool
follows_by follows (Ok outline) = true
follows_by follows (Err cause) = follows

abbrev pub follows_after : Bool → List ℕ → Bool
follows_after follows bytes = if length bytes == 0 then follows else follows_by follows (outline_of follows bytes)

-- a packet that decoding refuses because of an earlier one: it comes after a refused packet, and no key tag is between them or at it
abbrev pub is_lost : Position → Packet → Bool
is_lost position packet = position.is_broken && not (has_key_tag packet.bytes)

-- whether the packets after this one are lost up to the next key tag
abbrev pub broken_after : Position → Packet → Bool
broken_after position packet = is_lost position packet || not (is_ok (header_facts position.follows packet.bytes))

-- the greatest index of a byte that is reported; every byte of a file has a smaller one
abbrev pub most_byte : ℕ
most_byte = 2 ^ 64 - 1

-- the byte after the record of a packet, which begins at this byte: 12 bytes of its head, and those of the packet
abbrev pub end_of_record : ℕ → List ℕ → ℕ
end_of_record begins bytes = min (begins + 12 + length bytes) most_byte

-- before the first packet, whose record begins at this byte of the file
abbrev pub first_position : ℕ → Position
first_position begins = record { packets = 0; frames = 0; begins = begins; follows = false; is_broken = false }

-- the facts of the packet at a position: frames are numbered by the shown packets before them, and its bytes come after its record's
-- head
abbrev pub facts_of : Position → Packet → Facts
facts_of position packet = record {
  packet = position.packets;
  frame = if is_shown packet.bytes then Some position.frames else None;
  stamp = packet.stamp;
  bytes = length packet.bytes;
  byte = min (position.begins + 12) most_byte;
  tag = tag_of packet.bytes;
  size = key_size_of packet.bytes;
  scales = key_scales_of packet.bytes;
  header = header_facts position.follows packet.bytes;
  is_lost = is_lost position packet;
}

-- the position after it
abbrev pub position_after : Position → Packet → Position
position_after position packet = record {
  packets = position.packets + 1;
  frames = position.frames + from_bool (is_shown packet.bytes);
  begins = end_of_record position.begins packet.bytes;
  follows = follows_after position.follows packet.bytes;
  is_broken = broken_after position packet;
}

-- the position after packets
abbrev pub position_over : Position → List Packet → Position
position_over position [] = position
position_over position (packet ∷ packets) = position_over (position_after position packet) packets

-- the facts of each packet of a list
abbrev pub facts_from : Position → List Packet → List Facts
facts_from position [] = []
facts_from position (packet ∷ packets) = facts_of position packet ∷ facts_from (position_after position packet) packets

-- of packets whose first record begins at this byte of the file
abbrev pub facts_in : ℕ → List Packet → List Facts
facts_in begins packets = facts_from (first_position begins) packets

-- the width and height of the first packet that has a key frame's start with a size
abbrev pub first_key_size : List Packet → Option (ℕ × ℕ)
first_key_size [] = None
first_key_size (packet ∷ packets) = option_or (key_size_of packet.bytes) (first_key_size packets)
