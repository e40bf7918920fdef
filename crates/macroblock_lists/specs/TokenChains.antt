-- What decoding reads of a token partition, as one reading.
use Rattle.std.specs.Prelude.{◌≡◌, ◌≢◌, ℕ, ◌<◌, List, length, slice_index_or, slice_set, [], Option, Ok}
use Rattle.bool_coder.specs.Chains.{IsChain}
use Rattle.bool_coder.specs.Reader.{Reader, started}
use Rattle.bool_coder.specs.Reading.{Reading}
use Rattle.vp8_tables.specs.Tables.{TableEntries}
use Rattle.frame_header.specs.Header.{header_of}
use Rattle.frame_header.specs.declared.header.Header.{Header}
use Rattle.mode_parser.specs.declared.records.MbMode.{MbMode}
use Rattle.reference_frames.specs.FrameTokens.{TokenState, token_state, tokens_start}
use Rattle.macroblock_lists.specs.PartitionEnds.{no_end, no_place}
use Rattle.macroblock_lists.specs.Known.{frame_modes, known_before}
use Rattle.macroblock_lists.specs.declared.partition_ends.PartitionEnd.{PartitionEnd}
use Rattle.macroblock_lists.specs.Known.{Known}
use Rattle.macroblock_lists.specs.ChainEnds.{end_by, text_of}
use Rattle.macroblock_lists.specs.FirstChains.{columns_of, context_in, zeros_of}
use Rattle.macroblock_lists.specs.PartitionEnds.{ends_before}

-- a state between macroblocks with another reader of token partition k, and with none
abbrev pub with_reader : TokenState → ℕ → Reader → TokenState
with_reader state k reader = record state { readers = slice_set state.readers k reader }

abbrev pub without_reader : TokenState → ℕ → TokenState
without_reader state k = with_reader state k (started [])

abbrev pub reader_in : TokenState → ℕ → Reader
reader_in state k = slice_index_or state.readers k (started [])

-- what decoding reads of token partition k for the tokens of the first n macroblocks. The state before them is given, with the readers of
-- the other partitions: flags from their tokens select probabilities in this one. The value is the state after them, without this reader
unfoldable pub token_reading : Header → ℕ → TokenState → List MbMode → ℕ → ℕ → Reading TokenState
token_reading header columns start modes n k reader =
    let after = token_state header columns (with_reader start k reader) modes n in
    (without_reader after k, reader_in after k)

-- this is how decoding reads: from the state's own reader it returns the state that decoding leaves
abbrev pub TokensAreReadSo : Type 0
TokensAreReadSo =
    (header : Header) (columns : ℕ) (start : TokenState) (modes : List MbMode) (n k : ℕ) →
    let after = token_state header columns start modes n in
    token_reading header columns start modes n k (reader_in start k) ≡ (without_reader after k, reader_in after k)

-- it is a chain of reads, whatever the other partitions hold
abbrev pub TokensAreChains : Header → Type 0
TokensAreChains header = (columns : ℕ) (start : TokenState) (modes : List MbMode) (n k : ℕ) → k < length start.readers → IsChain (token_reading header columns start modes n k)

-- what decoding reads of token partition k of a packet with this header, before which this is known
abbrev pub packet_tokens : TableEntries → Option Known → List ℕ → Header → ℕ → Reading TokenState
packet_tokens tables known packet header k =
    let columns = columns_of known packet header in
    let modes = (frame_modes tables header (known_before packet known)).records in
    token_reading header columns (tokens_start header.partitions.items packet columns) modes (length modes) k

-- no other partition is read past all the zero bytes that are put after it
abbrev pub OthersEnd : ℕ → List PartitionEnd → ℕ → Type 0
OthersEnd most ends k = (j : ℕ) → j < length ends → j ≢ k → (slice_index_or ends j no_end).past < most

-- then the end that a check finds in the partition is where that chain of reads ends
abbrev pub TokenEndsAreOfChains : TableEntries → Option Known → Header → Type 0
TokenEndsAreOfChains tables known header =
    (packet : List ℕ) → header_of tables (context_in known) packet ≡ Ok header →
    let ends = (ends_before tables (Ok known) packet).tokens.items in
    let most = zeros_of known packet header in
    (k : ℕ) → k < length header.partitions.items → OthersEnd most ends k →
    (one : IsChain (packet_tokens tables known packet header k)) →
    slice_index_or ends k no_end ≡ end_by most one.chain (text_of packet (slice_index_or header.partitions.items k no_place))
