-- The bits that are listed of a macroblock's tokens, by the chains of reads that a check speaks of.
use Rattle.std.specs.Prelude.{◌≡◌, ℕ, ◌+◌, ◌-◌, ◌/◌, ◌%◌, ◌<◌, List, length, slice_get, slice_index_or, Option, Some, Ok}
use Rattle.bool_coder.specs.Chains.{IsChain}
use Rattle.bool_coder.specs.Reading.{Reading}
use Rattle.bool_coder.specs.Taken.{taken_from}
use Rattle.vp8_tables.specs.Tables.{TableEntries}
use Rattle.frame_header.specs.Header.{header_of}
use Rattle.frame_header.specs.declared.header.Header.{Header}
use Rattle.mode_parser.specs.declared.record_facts.RecordFacts.{RecordFacts}
use Rattle.mode_parser.specs.declared.records.MbMode.{MbMode}
use Rattle.reference_frames.specs.FrameTokens.{TokenState, token_state, tokens_start}
use Rattle.macroblock_lists.specs.Macroblocks.{macroblock_of}
use Rattle.macroblock_lists.specs.PartitionEnds.{marked_start, no_place}
use Rattle.macroblock_lists.specs.Known.{Known, frame_modes, known_before}
use Rattle.macroblock_lists.specs.ChainEnds.{text_of}
use Rattle.macroblock_lists.specs.FirstChains.{columns_of, context_in, zeros_of}
use Rattle.macroblock_lists.specs.TokenChains.{reader_in, token_reading}

-- the records of the frame of a packet, and what decoding reads of its token partition k for the first n of them: `packet_tokens` for all
abbrev pub records_of : TableEntries → Option Known → List ℕ → Header → List MbMode
records_of tables known packet header = (frame_modes tables header (known_before packet known)).records

abbrev pub first_tokens : TableEntries → Option Known → List ℕ → Header → ℕ → ℕ → Reading TokenState
first_tokens tables known packet header n k =
    let columns = columns_of known packet header in
    token_reading header columns (tokens_start header.partitions.items packet columns) (records_of tables known packet header) n k

-- the state after them, over the partitions with their zeros and marks
abbrev pub marked_after : TableEntries → Option Known → List ℕ → Header → ℕ → TokenState
marked_after tables known packet header n =
    let columns = columns_of known packet header in
    token_state header columns (marked_start (zeros_of known packet header) header.partitions.items packet columns) (records_of tables known packet header) n

-- no partition is read past all its zeros
abbrev pub BitsAreLeft : TableEntries → Option Known → List ℕ → Header → ℕ → Type 0
BitsAreLeft tables known packet header n = (j : ℕ) → j < length header.partitions.items → 0 < length (reader_in (marked_after tables known packet header n) j).rest

-- then the bits that are listed of the tokens of a macroblock are those that the chain with it takes in of the packet's own partition,
-- less those of the chain before it
abbrev pub TokenBitsAreOfChains : TableEntries → Option Known → Header → Type 0
TokenBitsAreOfChains tables known header =
    (packet : List ℕ) (n : ℕ) (mode : MbMode) (state : TokenState) (facts : RecordFacts) → header_of tables (context_in known) packet ≡ Ok header → slice_get (records_of tables known packet header) n ≡ Some mode →
    0 < length header.partitions.items → BitsAreLeft tables known packet header n → BitsAreLeft tables known packet header (n + 1) →
    let columns = columns_of known packet header in
    let k = n / columns % length header.partitions.items in
    let text = text_of packet (slice_index_or header.partitions.items k no_place) in
    (before : IsChain (first_tokens tables known packet header n k)) (after : IsChain (first_tokens tables known packet header (n + 1) k)) →
    (macroblock_of header (n % columns) (n / columns) state (marked_after tables known packet header n) mode facts).token_bits
    ≡ taken_from after.chain text - taken_from before.chain text
