-- The fields of a header that come before its probabilities.
use Rattle.std.specs.Prelude.{◌≡◌, ℕ, ◌/◌, Bool, List, length, slice_index, slice_range, Option, Some, None, is_some, Result, Ok, Err, if◌then◌else◌}
use Rattle.vp8_tables.specs.Tables.{TableEntries}
use Rattle.bool_coder.specs.Reader.{started}
use Rattle.frame_header.specs.Fields.{fields}
use Rattle.frame_header.specs.Header.{◌>>=◌, first_end, header_of}
use Rattle.frame_header.specs.Padding.{zero_context}
use Rattle.frame_header.specs.Places.{token_ranges}
use Rattle.frame_header.specs.References.{refreshes}
use Rattle.frame_header.specs.Start.{start_of}
use Rattle.frame_header.specs.Tags.{key_size_of}
use Rattle.frame_header.specs.TrailingFields.{quantizers}
use Rattle.frame_header.specs.declared.cause.Cause.{Cause}
use Rattle.frame_header.specs.declared.context.Context.{Context}
use Rattle.frame_header.specs.declared.header.Header.{Header}
use Rattle.frame_header.specs.declared.outline.Outline.{Outline}

-- the outline of an accepted header
abbrev pub outline_in : Header → Outline
outline_in header = record {
  colors = header.colors;
  partitions = length header.partitions.items;
  quantizer = header.quantizers.y_ac_index;
  level = header.filter.level;
  references = header.references;
}

abbrev pub outlined : Result Header Cause → Result Outline Cause
outlined (Ok header) = Ok (outline_in header)
outlined (Err cause) = Err cause

-- some context, if a key frame came before
abbrev pub context_if : Bool → Option Context
context_if follows = if follows then Some zero_context else None

-- the outline of a packet's header, or the first cause against it: the fields up to the references, without tables and after any
-- context or none (RFC 6386, sections 9.2 to 9.7)
unfoldable pub outline_of : Bool → List ℕ → Result Outline Cause
outline_of follows packet = do
  start ← start_of (context_if follows) packet
  end ← first_end start packet
  let read = fields start.tag.key zero_context (started (slice_range packet start.place end))
  partitions ← token_ranges packet end read.0.0.partition_count
  let index = quantizers read.1
  let kept = refreshes start.tag.key read.0.1.sign_biases index.1
  Ok (record { colors = read.0.0.colors; partitions = length partitions.items; quantizer = index.0.y_ac_index; level = read.0.0.filter.level; references = kept.0.0.references })

-- it is the outline of the header, for all tables and after every context or none
abbrev pub OutlinesAreHeaders : Type 0
OutlinesAreHeaders = (tables : TableEntries) (before : Option Context) (packet : List ℕ) → outlined (header_of tables before packet) ≡ outline_of (is_some before) packet

-- the scales of a packet that has a key size, horizontal and vertical: the two bits above each side (section 9.1)
abbrev pub key_scales_of : List ℕ → Option (ℕ × ℕ)
key_scales_of packet = if is_some (key_size_of packet) then Some (slice_index packet 7 / 64, slice_index packet 9 / 64) else None
