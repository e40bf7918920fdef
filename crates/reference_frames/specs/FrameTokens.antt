-- The tokens of a frame (RFC 6386, sections 9.5 and 13): the state between its macroblocks, and the residual of each.
use Rattle.std.specs.Prelude.{ℕ, zero, suc, ◌+◌, ◌%◌, ◌/◌, ◌==◌, nat_lt, Bool, true, false, not, if◌then◌else◌, List, [], map, length, replicate, slice_get, slice_index_or, slice_range, slice_set, Option, Some, None, ℤ, pos}
use Rattle.std.specs.List.{range_with_len}
use Rattle.bool_coder.specs.Reader.{Reader, started}
use Rattle.frame_header.specs.declared.places.PartitionRange.{PartitionRange}
use Rattle.frame_header.specs.declared.header.Header.{Header}
use Rattle.mode_parser.specs.declared.records.MbMode.{MbMode}
use Rattle.mode_parser.specs.declared.records.YMode.{YMode}
use Rattle.mode_parser.specs.declared.records.YMode.TheVariants.{Whole, B, Inter}
use Rattle.token_parser.specs.Blocks.{macroblock, skipped, no_coefficients, has_tokens}
use Rattle.token_parser.specs.declared.tokens.Tokens.{Tokens}
use Rattle.transforms.specs.Factors.{dequantised, factors_of}
use Rattle.transforms.specs.Transforms.{inverse_wht}
use Rattle.transforms.specs.declared.factor_set.Factors.{Factors}
use Rattle.mode_parser.specs.SplitModes.{is_split}
use Rattle.reference_frames.specs.Restored.{Residual}

-- ---- the residual of a macroblock

-- every luma mode except B and the split vector mode has a block Y2 of the first coefficients of luma (section 13)
abbrev pub has_y2 : YMode → Bool
has_y2 (Whole mode) = true
has_y2 B = false
has_y2 (Inter reference mode) = not (is_split mode)

-- a block, dequantised by the factor of its first coefficient and the factor of its others (section 14.1)
unfoldable pub block_with : List ℤ → ℤ → ℤ → List ℤ
block_with coefficients dc ac = dequantised coefficients dc ac

-- the results of Y2 (section 14.3)
unfoldable pub y2_results : Factors → List ℤ → List ℤ
y2_results factors coefficients = inverse_wht (block_with coefficients factors.y2_dc factors.y2_ac)

-- the first coefficients of the luma blocks, if Y2 has them
abbrev pub firsts_of : Factors → Bool → List (List ℤ) → Option (List ℤ)
firsts_of factors y2 coefficients = if y2 then Some (y2_results factors (slice_index_or coefficients 24 [])) else None

abbrev pub with_first : Option (List ℤ) → ℕ → List ℤ → List ℤ
with_first None k block = block
with_first (Some firsts) k block = slice_set block 0 (slice_index_or firsts k (pos 0))

-- the coefficients of block k, dequantised (section 14.1)
unfoldable pub block_of : Factors → Option (List ℤ) → List (List ℤ) → ℕ → List ℤ
block_of factors firsts coefficients k =
    if nat_lt k 16 then with_first firsts k (block_with (slice_index_or coefficients k []) factors.y_dc factors.y_ac)
    else block_with (slice_index_or coefficients k []) factors.uv_dc factors.uv_ac

-- the coefficients of the 24 blocks that have samples
unfoldable pub blocks_of : Factors → Bool → List (List ℤ) → List (List ℤ)
blocks_of factors y2 coefficients = map (block_of factors (firsts_of factors y2 coefficients) coefficients) (range_with_len 0 24)

-- ---- the state between macroblocks

-- the readers of the token partitions, the flags above for each column of macroblocks, and those to the left
pub record TokenState : Type 0 where
  pub readers : List Reader
  pub above : List (List Bool)
  pub left : List Bool

-- no block outside the frame has a token
abbrev pub outside : List Bool
outside = replicate 9 false

abbrev pub reader_of : List ℕ → PartitionRange → Reader
reader_of packet place = started (slice_range packet place.start (place.start + place.length))

abbrev pub tokens_start : List PartitionRange → List ℕ → ℕ → TokenState
tokens_start partitions packet columns = record { readers = map (reader_of packet) partitions; above = replicate columns outside; left = outside }

-- the flags above and to the left of the macroblock in a column; at the start of a row there are none to the left
abbrev pub flags_at : TokenState → ℕ → Tokens
flags_at state column = record {
  above = slice_index_or state.above column outside;
  left = if column == 0 then outside else state.left;
  coefficients = no_coefficients;
  ends = replicate 25 0;
}

-- row r reads partition r modulo their number (section 9.5)
abbrev pub partition_of : TokenState → ℕ → ℕ
partition_of state row = row % length state.readers

-- the tokens of the macroblock in this column and row, and the reader after them
unfoldable pub tokens_at : List ℕ → TokenState → ℕ → ℕ → MbMode → Tokens × Reader
tokens_at probs state column row mode =
    let flags = flags_at state column in
    let reader = slice_index_or state.readers (partition_of state row) (started []) in
    if mode.is_skipped then (skipped (has_y2 mode.y_mode) flags, reader) else macroblock probs (has_y2 mode.y_mode) flags reader

-- the state after it
abbrev pub state_with : TokenState → ℕ → ℕ → Tokens × Reader → TokenState
state_with state column row tokens_read = record {
  readers = slice_set state.readers (partition_of state row) tokens_read.1;
  above = slice_set state.above column tokens_read.0.above;
  left = tokens_read.0.left;
}

-- its residual; a macroblock that is skipped has none
abbrev pub residual_with : Factors → MbMode → Tokens → Residual
residual_with factors mode tokens = if mode.is_skipped then None else Some (blocks_of factors (has_y2 mode.y_mode) tokens.coefficients)

-- whether one of its blocks has a token; a macroblock that is skipped has none
abbrev pub flag_with : MbMode → Tokens → Bool
flag_with mode tokens = if mode.is_skipped then false else has_tokens (has_y2 mode.y_mode) tokens

-- ---- all macroblocks

abbrev pub state_after : Header → ℕ → TokenState → ℕ → Option MbMode → TokenState
state_after header columns state place None = state
state_after header columns state place (Some mode) =
    state_with state (place % columns) (place / columns) (tokens_at header.context.probabilities.coefficients state (place % columns) (place / columns) mode)

-- the state after the first n macroblocks, in raster order
unfoldable pub token_state : Header → ℕ → TokenState → List MbMode → ℕ → TokenState
token_state header columns start modes zero = start
token_state header columns start modes (suc n) = state_after header columns (token_state header columns start modes n) n (slice_get modes n)

abbrev pub residual_after : Header → ℕ → TokenState → ℕ → Option MbMode → Residual
residual_after header columns state place None = None
residual_after header columns state place (Some mode) =
    residual_with (factors_of header mode.segment) mode (tokens_at header.context.probabilities.coefficients state (place % columns) (place / columns) mode).0

-- the residual of the macroblock at an index
unfoldable pub residual_at : Header → ℕ → TokenState → List MbMode → ℕ → Residual
residual_at header columns start modes n = residual_after header columns (token_state header columns start modes n) n (slice_get modes n)

abbrev pub flag_after : Header → ℕ → TokenState → ℕ → Option MbMode → Bool
flag_after header columns state place None = false
flag_after header columns state place (Some mode) =
    flag_with mode (tokens_at header.context.probabilities.coefficients state (place % columns) (place / columns) mode).0

-- whether a block of the macroblock at an index has a token
unfoldable pub flag_at : Header → ℕ → TokenState → List MbMode → ℕ → Bool
flag_at header columns start modes n = flag_after header columns (token_state header columns start modes n) n (slice_get modes n)

-- and of each macroblock, in raster order
abbrev pub flags_of : Header → ℕ → TokenState → List MbMode → List Bool
flags_of header columns start modes = map (flag_at header columns start modes) (range_with_len 0 (length modes))
