-- The bits that are listed of a macroblock's record, by the chains of reads of the first partition.
use Rattle.std.specs.Prelude.{◌≡◌, ℕ, ◌+◌, ◌-◌, ◌*◌, ◌<◌, List, length, Option, Ok}
use Rattle.std.specs.Option.{option_map}
use Rattle.bool_coder.specs.Chains.{IsChain}
use Rattle.bool_coder.specs.Reader.{started}
use Rattle.bool_coder.specs.Reading.{Reading}
use Rattle.bool_coder.specs.Taken.{taken_from}
use Rattle.vp8_tables.specs.Tables.{TableEntries}
use Rattle.frame_header.specs.Contexts.{first_context}
use Rattle.frame_header.specs.Header.{first_partition, header_of}
use Rattle.frame_header.specs.Tags.{has_key_tag}
use Rattle.frame_header.specs.declared.context.Context.{Context}
use Rattle.frame_header.specs.declared.header.Header.{Header}
use Rattle.frame_header.specs.declared.places.PartitionRange.{PartitionRange}
use Rattle.mode_parser.specs.declared.records.MbMode.{MbMode}
use Rattle.pixel_planes.specs.Pictures.{macroblocks}
use Rattle.macroblock_lists.specs.Known.{Known, height_of, known_before, width_of}
use Rattle.macroblock_lists.specs.PartitionEnds.{marked_text}
use Rattle.macroblock_lists.specs.Records.{facts_in, frame_facts}
use Rattle.macroblock_lists.specs.ChainEnds.{text_of}
use Rattle.macroblock_lists.specs.FirstChains.{columns_of, context_in, records_reading, rows_of, zeros_of}

-- what decoding reads of a first partition, of a frame with this header, up to the record of macroblock n: before it, and after it with n + 1
abbrev pub frame_records : TableEntries → Header → Context → Option Known → ℕ → Reading (Header × List MbMode)
frame_records tables header context before n =
    records_reading tables header context (macroblocks (width_of header before)) (macroblocks (height_of header before)) (option_map (λ (s : Known). s.segment_map) before) n

-- of a packet with this header, before which this is known: `packet_reading` for all macroblocks
abbrev pub packet_records : TableEntries → Option Known → List ℕ → Header → ℕ → Reading (Header × List MbMode)
packet_records tables known packet header n = frame_records tables header (first_context tables (has_key_tag packet) (context_in known)) (known_before packet known) n

-- each is a chain of reads
abbrev pub RecordsAreChains : TableEntries → Option Known → Type 0
RecordsAreChains tables known = (packet : List ℕ) (header : Header) (n : ℕ) → IsChain (packet_records tables known packet header n)

-- if the partition is not read past all the zeros after it, the bits that are listed of the record of macroblock n are those that the chain
-- with it takes in of the packet's own partition, less those of the chain before it
abbrev pub ModeBitsAreOfChains : TableEntries → Option Known → Type 0
ModeBitsAreOfChains tables known =
    (packet : List ℕ) (header : Header) (place : PartitionRange) (n : ℕ) → header_of tables (context_in known) packet ≡ Ok header → first_partition (context_in known) packet ≡ Ok place →
    n < columns_of known packet header * rows_of known packet header →
    0 < length (packet_records tables known packet header (n + 1) (started (marked_text (zeros_of known packet header) packet place))).1.rest →
    (before : IsChain (packet_records tables known packet header n)) (after : IsChain (packet_records tables known packet header (n + 1))) →
    (facts_in (frame_facts tables packet header (known_before packet known)) n).bits ≡ taken_from after.chain (text_of packet place) - taken_from before.chain (text_of packet place)
