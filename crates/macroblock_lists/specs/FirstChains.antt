-- What decoding reads of a first partition, as one reading.
use Rattle.std.specs.Prelude.{◌≡◌, ℕ, ◌*◌, List, length, Option, Ok}
use Rattle.std.specs.Option.{option_map}
use Rattle.bool_coder.specs.Chains.{AreProbabilities, IsChain}
use Rattle.bool_coder.specs.Reader.{started}
use Rattle.bool_coder.specs.Reading.{Reading, ◌>>=◌, give}
use Rattle.vp8_tables.specs.Tables.{TableEntries}
use Rattle.frame_header.specs.Contexts.{first_context}
use Rattle.frame_header.specs.Fields.{fields}
use Rattle.frame_header.specs.TrailingFields.{trailing_fields}
use Rattle.frame_header.specs.Header.{first_partition, header_in, header_of}
use Rattle.frame_header.specs.Tags.{has_key_tag}
use Rattle.frame_header.specs.declared.context.Context.{Context}
use Rattle.frame_header.specs.declared.context.Probabilities.{Probabilities}
use Rattle.frame_header.specs.declared.header.Header.{Header}
use Rattle.frame_header.specs.declared.places.PartitionRange.{PartitionRange}
use Rattle.mode_parser.specs.declared.records.MbMode.{MbMode}
use Rattle.mode_parser.specs.Chains.{AreRows}
use Rattle.mode_parser.specs.FrameModes.{first_modes}
use Rattle.pixel_planes.specs.Pictures.{macroblocks}
use Rattle.macroblock_lists.specs.PartitionEnds.{zeros_for}
use Rattle.macroblock_lists.specs.Known.{frame_modes, height_of, known_before, width_of}
use Rattle.macroblock_lists.specs.Known.{Known}
use Rattle.macroblock_lists.specs.ChainEnds.{end_by, text_of}
use Rattle.macroblock_lists.specs.PartitionEnds.{ends_before}

-- the header of a frame after this context: its fields in order (RFC 6386, sections 9.2 to 9.11 and 19.2). What a header has from
-- elsewhere is given: the tag, the size and the token partitions
abbrev pub header_reading : TableEntries → Header → Context → Reading Header
header_reading tables given context = do
  first ← fields given.is_key context
  after ← trailing_fields given.is_key tables.updates first.1
  give (header_in (record { tag = record { key = given.is_key; version = given.version; shown = given.is_shown; first_partition = 0 }; place = 0; width = given.width; height = given.height }) first given.partitions (after, given.reader))

-- the header, and then the records of the first n of so many macroblocks, after a segment map (section 19.3)
unfoldable pub records_reading : TableEntries → Header → Context → ℕ → ℕ → Option (List ℕ) → ℕ → Reading (Header × List MbMode)
records_reading tables given context columns rows map n = do
  header ← header_reading tables given context
  records ← first_modes n tables header columns rows map
  give (header, records)

-- and of all
abbrev pub first_reading : TableEntries → Header → Context → ℕ → ℕ → Option (List ℕ) → Reading (Header × List MbMode)
first_reading tables given context columns rows map = records_reading tables given context columns rows map (columns * rows)

-- the context that is known, or none
abbrev pub context_in : Option Known → Option Context
context_in known = option_map (λ s. s.context) known

-- how many macroblocks the frame of a packet with this header has each way
abbrev pub columns_of : Option Known → List ℕ → Header → ℕ
columns_of known packet header = macroblocks (width_of header (known_before packet known))

abbrev pub rows_of : Option Known → List ℕ → Header → ℕ
rows_of known packet header = macroblocks (height_of header (known_before packet known))

-- how many zero bytes are put after each of its partitions to find the end of decoding
abbrev pub zeros_of : Option Known → List ℕ → Header → ℕ
zeros_of known packet header = zeros_for (columns_of known packet header) (rows_of known packet header)

-- what decoding reads of the first partition of a packet with this header, before which this is known
abbrev pub packet_reading : TableEntries → Option Known → List ℕ → Header → Reading (Header × List MbMode)
packet_reading tables known packet header =
    first_reading tables header (first_context tables (has_key_tag packet) (context_in known)) (columns_of known packet header) (rows_of known packet header) (option_map (λ s. s.segment_map) (known_before packet known))

-- it is a chain of reads, whatever is read
abbrev pub FirstIsChain : TableEntries → Option Known → Type 0
FirstIsChain tables known = (packet : List ℕ) (header : Header) → IsChain (packet_reading tables known packet header)

-- this is how decoding reads: over the packet's own first partition it returns the packet's header and its records, and leaves the bits
-- that decoding leaves
abbrev pub FirstIsReadSo : TableEntries → Option Known → Type 0
FirstIsReadSo tables known =
    (packet : List ℕ) (header : Header) (place : PartitionRange) → header_of tables (context_in known) packet ≡ Ok header → first_partition (context_in known) packet ≡ Ok place →
    let read = packet_reading tables known packet header (started (text_of packet place)) in
    let modes = frame_modes tables header (known_before packet known) in
    (read.0 ≡ (header, modes.records)) × (length read.1.rest ≡ modes.left)

-- the end that a check finds in the first partition, of a packet before which this is known, is where that chain of reads ends
abbrev pub FirstEndIsOfChain : TableEntries → Option Known → Type 0
FirstEndIsOfChain tables known =
    (packet : List ℕ) (header : Header) (place : PartitionRange) → header_of tables (context_in known) packet ≡ Ok header → first_partition (context_in known) packet ≡ Ok place →
    (one : IsChain (packet_reading tables known packet header)) →
    (ends_before tables (Ok known) packet).first ≡ end_by (zeros_of known packet header) one.chain (text_of packet place)

-- the probabilities of modes and vectors in a context are bytes, as in the types of the code
pub record AreBytes (probabilities : Probabilities) : Type 0 where
  pub y_modes : AreProbabilities probabilities.y_modes
  pub uv_modes : AreProbabilities probabilities.uv_modes
  pub vectors : AreRows probabilities.vectors
