use Rattle.std.specs.Prelude.{ℕ, ◌+◌, ◌*◌, ◌/◌, ◌%◌, Bool, true, false, not, ◌&&◌, List, length, slice_index, nat_le, ◌==◌, Option, Some, None, if◌then◌else◌}
use Rattle.std.specs.Option.{option_map_or}
use Rattle.frame_header.specs.declared.tag_fields.Tag.{Tag}

-- the number in three bytes starting at an index, least significant first
abbrev pub number_at : List ℕ → ℕ → ℕ
number_at bytes at = slice_index bytes at + 256 * slice_index bytes (at + 1) + 65536 * slice_index bytes (at + 2)

-- the fields of a tag's number: bit 0 is 0 for a key frame, bits 1 to 3 are the version, bit 4 says
-- that the frame is shown, bits 5 to 23 are the size of the first partition (RFC 6386, section 9.1)
abbrev pub tag_in : ℕ → Tag
tag_in n = record { key = n % 2 == 0; version = n / 2 % 8; shown = n / 16 % 2 == 1; first_partition = n / 32 }

-- the tag of a packet of three bytes or more
abbrev pub tag_of : List ℕ → Option Tag
tag_of packet = if nat_le 3 (length packet) then Some (tag_in (number_at packet 0)) else None

-- a packet with a key tag
abbrev pub has_key_tag : List ℕ → Bool
has_key_tag packet = option_map_or (λ tag. tag.key) (tag_of packet) false

-- a packet that is shown as a frame: one whose tag has the show bit, or that has no tag
abbrev pub is_shown : List ℕ → Bool
is_shown packet = option_map_or (λ tag. tag.shown) (tag_of packet) true

-- the start code after a key tag (RFC 6386, section 9.1)
abbrev pub has_start_code : List ℕ → Bool
has_start_code packet = slice_index packet 3 == 0x9D && slice_index packet 4 == 0x01 && slice_index packet 5 == 0x2A

-- the 14 bits of a size after the start code; the two above them are the scale (RFC 6386, section 9.1)
abbrev pub width_of : List ℕ → ℕ
width_of packet = (slice_index packet 6 + 256 * slice_index packet 7) % 16384

abbrev pub height_of : List ℕ → ℕ
height_of packet = (slice_index packet 8 + 256 * slice_index packet 9) % 16384

-- the width and height of a packet with a key tag, ten bytes or more, the start code and no zero size
abbrev pub key_size_of : List ℕ → Option (ℕ × ℕ)
key_size_of packet =
    if has_key_tag packet && nat_le 10 (length packet) && has_start_code packet && not (width_of packet == 0) && not (height_of packet == 0)
    then Some (width_of packet, height_of packet) else None
