-- Where decoding ends in each partition of a packet. Each partition is read once more with zero bytes and a mark after it
-- (`marked` of bool_coder, law `marks_count_bits`): what its reader leaves of them says how far it was read.
use Rattle.std.specs.Prelude.{ℕ, ◌+◌, ◌-◌, ◌*◌, ◌/◌, ◌==◌, min, if◌then◌else◌, List, [], map, length, replicate, slice_index_or, slice_range, Option, None, Result, Ok, Err}
use Rattle.std.specs.List.{range_with_len}
use Rattle.std.specs.Option.{option_map}
use Rattle.bool_coder.specs.Reader.{Reader, started}
use Rattle.bool_coder.specs.Taken.{marked}
use Rattle.vp8_tables.specs.Tables.{TableEntries}
use Rattle.frame_header.specs.declared.cause.Cause.{Cause}
use Rattle.frame_header.specs.declared.header.Header.{Header}
use Rattle.frame_header.specs.declared.context.Context.{Context}
use Rattle.frame_header.specs.Header.{first_partition, header_over}
use Rattle.frame_header.specs.declared.places.PartitionRange.{PartitionRange}
use Rattle.frame_header.specs.Tags.{has_key_tag}
use Rattle.mode_parser.specs.declared.records.MbMode.{MbMode}
use Rattle.pixel_planes.specs.Pictures.{macroblocks}
use Rattle.reference_frames.specs.FrameTokens.{TokenState, outside, token_state}
use Rattle.macroblock_lists.specs.declared.partition_ends.PartitionEnd.{PartitionEnd}
use Rattle.macroblock_lists.specs.declared.partition_ends.PartitionEnds.{PartitionEnds}
use Rattle.macroblock_lists.specs.Known.{Known, Knowledge, frame_modes, header_after, height_of, known_before, width_of}

-- the zero bytes after each partition: four for each macroblock, and 64 for the header
abbrev pub zeros_for : ℕ → ℕ → ℕ
zeros_for columns rows = 64 + 4 * (columns * rows)

-- the bits past the end of a partition of so many bytes that its reader has taken in, if it has so many bits left of the zeros
-- and the mark. Eight bits are in its window before the first bit is read; those of an empty partition do not count
abbrev pub bits_past : ℕ → ℕ → ℕ → ℕ
bits_past zeros size left = (if size == 0 then 8 * zeros else 8 * (zeros + 1)) - left

-- in bytes, rounded up, and at most all the zeros
abbrev pub bytes_past : ℕ → ℕ → ℕ → ℕ
bytes_past zeros size left = min zeros ((bits_past zeros size left + 7) / 8)

-- the bytes of a partition that its reader has not taken in
abbrev pub bytes_unread : ℕ → ℕ → ℕ → ℕ
bytes_unread zeros size left = min size ((left - 8 * (zeros + 1)) / 8)

-- where reading ends in a partition of so many bytes
abbrev pub end_of : ℕ → ℕ → ℕ → PartitionEnd
end_of zeros size left = record { size = size; past = bytes_past zeros size left; unread = bytes_unread zeros size left }

-- a partition with the zeros and the mark
abbrev pub marked_text : ℕ → List ℕ → PartitionRange → List ℕ
marked_text zeros packet place = marked zeros (slice_range packet place.start (place.start + place.length))

-- the state before the first macroblock, over such partitions
abbrev pub marked_start : ℕ → List PartitionRange → List ℕ → ℕ → TokenState
marked_start zeros partitions packet columns = record {
  readers = map (λ place. started (marked_text zeros packet place)) partitions;
  above = replicate columns outside;
  left = outside;
}

-- where reading ends in the token partition of this number, by the readers after the last macroblock
abbrev pub no_place : PartitionRange
no_place = record { start = 0; length = 0 }

abbrev pub token_end : ℕ → List PartitionRange → List Reader → ℕ → PartitionEnd
token_end zeros partitions readers k =
    end_of zeros (slice_index_or partitions k no_place).length (length (slice_index_or readers k (started [])).rest)

-- and in each
abbrev pub token_ends : ℕ → List PartitionRange → List Reader → List PartitionEnd
token_ends zeros partitions readers = map (token_end zeros partitions readers) (range_with_len 0 (length partitions))

-- by the tokens of all macroblocks of a frame of so many columns, with these records
unfoldable pub frame_token_ends : ℕ → List ℕ → Header → ℕ → List MbMode → List PartitionEnd
frame_token_ends zeros packet header columns modes =
    let partitions = header.partitions.items in
    token_ends zeros partitions (token_state header columns (marked_start zeros partitions packet columns) modes (length modes)).readers

-- where reading ends in a first partition of so many bytes, by the header read from it with the zeros and the mark, and the
-- modes after the header. (It is never refused: that takes more bits past the end than 64 bytes have.)
abbrev pub first_end_by : TableEntries → ℕ → ℕ → Option Known → Result Header Cause → PartitionEnd
first_end_by tables padding size before (Ok header) = end_of padding size (frame_modes tables header before).left
first_end_by tables padding size before (Err cause) = end_of padding size 0

-- a partition of no bytes, of which none is read
abbrev pub no_end : PartitionEnd
no_end = record { size = 0; past = 0; unread = 0 }

abbrev pub first_end_at : TableEntries → ℕ → List ℕ → Option Context → Option Known → Result PartitionRange Cause → PartitionEnd
first_end_at tables padding packet context before (Ok place) =
    first_end_by tables padding place.length before (header_over tables context packet (marked_text padding packet place))
first_end_at tables padding packet context before (Err cause) = no_end

unfoldable pub first_partition_end : TableEntries → ℕ → List ℕ → Option Context → Option Known → PartitionEnd
first_partition_end tables zeros packet context before = first_end_at tables zeros packet context before (first_partition context packet)

-- of a frame after its header, which was read after a context
abbrev pub frame_ends : TableEntries → List ℕ → Header → Option Context → Option Known → PartitionEnds
frame_ends tables packet header context before =
    let columns = macroblocks (width_of header before) in
    let zeros = zeros_for columns (macroblocks (height_of header before)) in
    record {
      first = first_partition_end tables zeros packet context before;
      tokens = record { items = frame_token_ends zeros packet header columns (frame_modes tables header before).records };
    }

-- a packet that is not decoded has none
abbrev pub no_ends : PartitionEnds
no_ends = record { first = no_end; tokens = record { items = [] } }

abbrev pub partition_ends_by : TableEntries → List ℕ → Option Context → Option Known → Result Header Cause → PartitionEnds
partition_ends_by tables packet context before (Ok header) = frame_ends tables packet header context before
partition_ends_by tables packet context before (Err cause) = no_ends

-- where decoding ends in each partition of a packet before which this is known
unfoldable pub partition_ends_of : TableEntries → Option Known → List ℕ → PartitionEnds
partition_ends_of tables known packet =
    partition_ends_by tables packet (option_map (λ k. k.context) known) (known_before packet known) (header_after tables known packet)

-- and of a packet of a stream, after this progress: a packet that is lost has none
abbrev pub ends_in : TableEntries → Knowledge → List ℕ → PartitionEnds
ends_in tables (Ok known) packet = partition_ends_of tables known packet
ends_in tables (Err broken) packet = no_ends

abbrev pub ends_before : TableEntries → Knowledge → List ℕ → PartitionEnds
ends_before tables progress packet = if has_key_tag packet then partition_ends_of tables None packet else ends_in tables progress packet
