-- The show bit of a packet: bit 4 of its first byte, which says that the frame is shown (RFC 6386, section 9.1).
use Rattle.std.specs.Prelude.{ℕ, ◌+◌, ◌*◌, ◌/◌, ◌%◌, nat_le, Bool, if◌then◌else◌, List, length, slice_index, slice_set}

-- a packet of three bytes or more has a show bit; a shorter one has no tag
abbrev pub has_show_bit : List ℕ → Bool
has_show_bit packet = nat_le 3 (length packet)

-- a byte with bit 4 set or cleared, and its other bits as they are
abbrev pub byte_showing : Bool → ℕ → ℕ
byte_showing shown byte =
    let others = byte / 32 * 32 + byte % 16 in
    if shown then others + 16 else others

-- a packet with its show bit set or cleared; a packet that has none is unchanged
abbrev pub with_show_bit : Bool → List ℕ → List ℕ
with_show_bit shown packet = if has_show_bit packet then slice_set packet 0 (byte_showing shown (slice_index packet 0)) else packet
