use Rattle.std.specs.Prelude.{◌≡◌, ℕ, ◌+◌, ◌-◌, List, length, slice_range, nat_lt, Option, Result, Ok, Err, if◌then◌else◌}
use Rattle.arrayvec.specs.ArrayVec.{ArrayVec}
use Rattle.vp8_tables.specs.Tables.{TableEntries}
use Rattle.bool_coder.specs.Reader.{Reader, started}
use Rattle.frame_header.specs.Tags.{has_key_tag}
use Rattle.frame_header.specs.Contexts.{first_context}
use Rattle.frame_header.specs.Fields.{fields}
use Rattle.frame_header.specs.Places.{token_ranges}
use Rattle.frame_header.specs.Start.{start_of}
use Rattle.frame_header.specs.TrailingFields.{trailing_fields}
use Rattle.frame_header.specs.declared.cause.Cause.{Cause}
use Rattle.frame_header.specs.declared.cause.Cause.TheVariants.{FirstPartition}
use Rattle.frame_header.specs.declared.context.Context.{Context}
use Rattle.frame_header.specs.declared.fields.Fields.{Fields}
use Rattle.frame_header.specs.declared.places.PartitionRange.{PartitionRange}
use Rattle.frame_header.specs.declared.start.Start.{Start}
use Rattle.frame_header.specs.declared.trailing_fields.TrailingFields.{TrailingFields}
use Rattle.frame_header.specs.declared.header.Header.{Header}

-- one step, then the next; the first cause wins
infixl 10 ◌>>=◌
abbrev pub ◌>>=◌ : {A B : Type 0} → Result A Cause → (A → Result B Cause) → Result B Cause
Ok x >>= next = next x
Err cause >>= next = Err cause

-- the position after the first partition, which follows the tag (RFC 6386, section 9.1)
abbrev pub first_end : Start → List ℕ → Result ℕ Cause
first_end start packet =
    if nat_lt (length packet - start.place) start.tag.first_partition then Err FirstPartition
    else Ok (start.place + start.tag.first_partition)

-- the context that a frame leaves for the next: its own, but if refresh_entropy is 0 with the four sets of probabilities
-- from before that bit was read (RFC 6386, section 19.2)
abbrev pub context_left : Context → TrailingFields → Context → Context
context_left before trailing context = if trailing.refreshes_entropy then context else record context { probabilities = before.probabilities }

-- a header of these parts
abbrev pub header_in : Start → Fields × Context → ArrayVec PartitionRange → (TrailingFields × Context) × Reader → Header
header_in start (fields, before) partitions ((trailing, context), reader) = record {
  is_key = start.tag.key;
  version = start.tag.version;
  is_shown = start.tag.shown;
  width = start.width;
  height = start.height;
  colors = fields.colors;
  segmentation = fields.segmentation;
  filter = fields.filter;
  adjusts_level = fields.adjusts_level;
  quantizers = trailing.quantizers;
  references = trailing.references;
  refreshes_entropy = trailing.refreshes_entropy;
  skip_probability = trailing.skip_probability;
  reference_probabilities = trailing.reference_probabilities;
  partitions = partitions;
  context = context;
  context_after = context_left before trailing context;
  reader = reader;
}

-- the header of a frame after its start, with the context that it begins with, or the first cause against it: the first
-- partition and its fields up to the number of token partitions, those partitions, and the fields after (RFC 6386, sections
-- 9.2 to 9.11)
abbrev pub header_after : TableEntries → Context → List ℕ → Start → Result Header Cause
header_after tables context packet start = do
  end ← first_end start packet
  let read = fields start.tag.key context (started (slice_range packet start.place end))
  partitions ← token_ranges packet end read.0.0.partition_count
  Ok (header_in start read.0 partitions (trailing_fields start.tag.key tables.updates read.0.1 read.1))

-- the header of a frame after its start and the end of its first partition, whose text is given: its own, or another one
abbrev pub header_from : TableEntries → Context → List ℕ → Start → ℕ → List ℕ → Result Header Cause
header_from tables context packet start end first = do
  let read = fields start.tag.key context (started first)
  partitions ← token_ranges packet end read.0.0.partition_count
  Ok (header_in start read.0 partitions (trailing_fields start.tag.key tables.updates read.0.1 read.1))

-- the header of a packet after a context or none, or the first cause against it (RFC 6386, sections 9 and 19)
unfoldable pub header_of : TableEntries → Option Context → List ℕ → Result Header Cause
header_of tables before packet = do
  start ← start_of before packet
  header_after tables (first_context tables (has_key_tag packet) before) packet start

-- the same with another text for the first partition
unfoldable pub header_over : TableEntries → Option Context → List ℕ → List ℕ → Result Header Cause
header_over tables before packet first = do
  start ← start_of before packet
  end ← first_end start packet
  header_from tables (first_context tables (has_key_tag packet) before) packet start end first

-- the first partition of a packet, which follows its tag, or the first cause against the packet up to the end of it
abbrev pub first_partition : Option Context → List ℕ → Result PartitionRange Cause
first_partition before packet = do
  start ← start_of before packet
  end ← first_end start packet
  Ok (record { start = start.place; length = end - start.place })

-- a header is read from the packet's own first partition
abbrev pub header_by_place : TableEntries → Option Context → List ℕ → Result Header Cause
header_by_place tables before packet = do
  place ← first_partition before packet
  header_over tables before packet (slice_range packet place.start (place.start + place.length))

abbrev pub HeadersAreOverTheirOwn : Type 0
HeadersAreOverTheirOwn = (tables : TableEntries) (before : Option Context) (packet : List ℕ) → header_of tables before packet ≡ header_by_place tables before packet
