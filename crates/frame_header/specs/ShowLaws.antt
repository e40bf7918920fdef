-- Laws about the show bit.
use Rattle.std.specs.Prelude.{◌≡◌, ℕ, ◌/◌, ◌%◌, Bool, true, List, drop, length, slice_index}
use Rattle.std.specs.Option.{option_map}
use Rattle.frame_header.specs.Tags.{has_key_tag, is_shown, key_size_of, tag_of}
use Rattle.frame_header.specs.declared.tag_fields.Tag.{Tag}
use Rattle.frame_header.specs.ShowBits.{has_show_bit, with_show_bit}

-- a tag with its show bit set or cleared, and its other fields as they are
abbrev pub tag_showing : Bool → Tag → Tag
tag_showing shown tag = record tag { shown = shown }

-- the tag of the packet changes so, if it has one
abbrev pub TagHasShowBit : Type 0
TagHasShowBit = (shown : Bool) (packet : List ℕ) → tag_of (with_show_bit shown packet) ≡ option_map (tag_showing shown) (tag_of packet)

-- a packet that has a show bit is shown as the bit says: with the bit cleared it is hidden, with the bit set it is shown
abbrev pub ShowBitSays : Type 0
ShowBitSays = (shown : Bool) (packet : List ℕ) → has_show_bit packet ≡ true → is_shown (with_show_bit shown packet) ≡ shown

-- everything else is unchanged: the number of bytes, each byte after the first, the other bits of the first, the key tag and the
-- size of a key frame
pub record LeavesTheRest (shown : Bool) (packet : List ℕ) : Type 0 where
  pub count : length (with_show_bit shown packet) ≡ length packet
  pub later : drop 1 (with_show_bit shown packet) ≡ drop 1 packet
  pub low : slice_index (with_show_bit shown packet) 0 % 16 ≡ slice_index packet 0 % 16
  pub high : slice_index (with_show_bit shown packet) 0 / 32 ≡ slice_index packet 0 / 32
  pub key_tag : has_key_tag (with_show_bit shown packet) ≡ has_key_tag packet
  pub key_size : key_size_of (with_show_bit shown packet) ≡ key_size_of packet

abbrev pub OnlyTheBitChanges : Type 0
OnlyTheBitChanges = (shown : Bool) (packet : List ℕ) → LeavesTheRest shown packet

-- the bit that a packet has changes nothing, and of two changes the last one counts
abbrev pub OwnBitStays : Type 0
OwnBitStays = (packet : List ℕ) → with_show_bit (is_shown packet) packet ≡ packet

abbrev pub LastBitCounts : Type 0
LastBitCounts = (before shown : Bool) (packet : List ℕ) → with_show_bit shown (with_show_bit before packet) ≡ with_show_bit shown packet
