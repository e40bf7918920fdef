-- The size of the last key frame before an index. A key tag: bit 0 of the first byte is 0, in a packet of 3 bytes or more.
use Rattle.std.specs.Prelude.{ℕ, Bool, false, List, [], ◌∷◌, Option, Some, None, option_and_then, if◌then◌else◌, slice_get, take}
use Rattle.std.specs.Option.{option_map_or}
use Rattle.frame_header.specs.Tags.{has_key_tag, key_size_of}
use Rattle.packet_edits.specs.Edits.{Listing}
use Rattle.packet_edits.specs.Shown.{stream_of}

-- whether the packet at an index has a key tag
abbrev pub key_tag_at : List (List ℕ) → ℕ → Bool
key_tag_at packets place = option_map_or has_key_tag (slice_get packets place) false

-- the last packet with a key tag, or `before` if none has one
abbrev pub last_key_or : Option (List ℕ) → List (List ℕ) → Option (List ℕ)
last_key_or before [] = before
last_key_or before (packet ∷ packets) = last_key_or (if has_key_tag packet then Some packet else before) packets

-- the size in the last packet with a key tag before an index, if there is such a packet and it has a size
abbrev pub size_at : ℕ → Listing → Option (ℕ × ℕ)
size_at at list = option_and_then key_size_of (last_key_or None (take at (stream_of list)))
