-- What the text of a header has besides the decoder's header: the bits of its fields, and numbers that decoding does not use.
use Rattle.std.specs.Prelude.{ℕ, List}
use Rattle.std.specs.Option.{option_map_or}
use Rattle.vp8_tables.specs.Tables.{TableEntries}
use Rattle.frame_header.specs.Outlines.{key_scales_of}
use Rattle.frame_header.specs.Tags.{tag_of}
use Rattle.header_bits.specs.Bits.{header_bits}
use Rattle.header_bits.specs.Copies.{copy_numbers}
use Rattle.header_bits.specs.declared.coded.Coded.{Coded}

-- the size of the first partition that the tag gives (RFC 6386, section 9.1)
abbrev pub first_size : List ℕ → ℕ
first_size packet = option_map_or (λ tag. tag.first_partition) (tag_of packet) 0

-- the horizontal and the vertical scale of a key frame (section 9.1); 0 of any other packet
abbrev pub scales_of : List ℕ → ℕ × ℕ
scales_of packet = option_map_or (λ scales. scales) (key_scales_of packet) (0, 0)

abbrev pub coded_in : TableEntries → List ℕ → Coded
coded_in tables packet = record {
  bits = header_bits tables packet;
  copies = copy_numbers packet;
  first_size = first_size packet;
  scales = scales_of packet;
}
