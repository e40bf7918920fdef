-- The bytes of forged packets.
use Rattle.std.specs.Prelude.{ℕ, ◌+◌, ◌*◌, ◌/◌, ◌%◌, nat_le, nat_lt, ◌&&◌, Bool, not, if◌then◌else◌, List, [], ◌∷◌, ◌++◌, length, Result, Ok, Err}
use Rattle.bool_coder.specs.CodeText.{code_text}
use Rattle.vp8_tables.specs.Tables.{TableEntries}
use Rattle.pixel_planes.specs.Pictures.{is_side, macroblocks}
use Rattle.packet_forge.specs.Pairs.{blank_pairs, hold_pairs}
use Rattle.packet_forge.specs.declared.faults.ForgeFault.{ForgeFault}
use Rattle.packet_forge.specs.declared.faults.ForgeFault.TheVariants.{Size, TooLarge}

-- the tag of a shown frame of version 0: bit 0 is 0 for a key frame, bit 4 is show_frame, and bits 5 to 23
-- are the size of its first partition; least significant byte first (RFC 6386, section 9.1)
abbrev pub tag_bytes : ℕ → ℕ → List ℕ
tag_bytes later size =
    let tag = later + 16 + 32 * size in
    tag % 256 ∷ tag / 256 % 256 ∷ tag / 65536 % 256 ∷ []

-- the bytes after the tag of a key frame: the start code, and its width and height with no scale (RFC 6386, section 9.1)
abbrev pub key_start : ℕ → ℕ → List ℕ
key_start width height = 0x9D ∷ 0x01 ∷ 0x2A ∷ width % 256 ∷ width / 256 ∷ height % 256 ∷ height / 256 ∷ []

-- the first partitions
unfoldable pub blank_partition : TableEntries → ℕ → ℕ → List ℕ
blank_partition tables width height = code_text (blank_pairs tables.updates (macroblocks width * macroblocks height))

unfoldable pub hold_partition : TableEntries → ℕ → ℕ → List ℕ
hold_partition tables width height = code_text (hold_pairs tables.updates (macroblocks width) (macroblocks height))

-- the packets; after the first partition there is one token partition, which is empty
abbrev pub blank_packet : TableEntries → ℕ → ℕ → List ℕ
blank_packet tables width height =
    let first = blank_partition tables width height in
    tag_bytes 0 (length first) ++ key_start width height ++ first

abbrev pub hold_packet : TableEntries → ℕ → ℕ → List ℕ
hold_packet tables width height =
    let first = hold_partition tables width height in
    tag_bytes 1 (length first) ++ first

-- a packet, unless its size is not one of a frame or its first partition has more bytes than its tag can give
abbrev pub forged : ℕ → ℕ → List ℕ → List ℕ → Result (List ℕ) ForgeFault
forged width height first packet =
    if not (is_side width && is_side height) then Err Size else if nat_lt 524287 (length first) then Err TooLarge else Ok packet

-- the packet of a blank frame, and the packet of a hold frame
abbrev pub blank_of : TableEntries → ℕ → ℕ → Result (List ℕ) ForgeFault
blank_of tables width height = forged width height (blank_partition tables width height) (blank_packet tables width height)

abbrev pub hold_of : TableEntries → ℕ → ℕ → Result (List ℕ) ForgeFault
hold_of tables width height = forged width height (hold_partition tables width height) (hold_packet tables width height)
