-- Which partition a row reads, and where the results of Y2 go (RFC 6386, sections 9.5 and 14.3), as laws.
use Rattle.std.specs.Prelude.{◌≡◌, ◌≢◌, ℕ, ◌+◌, ◌<◌, true, false, List, [], length, slice_index_or, ℤ, pos}
use Rattle.bool_coder.specs.Reader.{Reader}
use Rattle.token_parser.specs.declared.tokens.Tokens.{Tokens}
use Rattle.transforms.specs.Factors.{dequantised}
use Rattle.transforms.specs.Transforms.{inverse_wht}
use Rattle.transforms.specs.declared.factor_set.Factors.{Factors}
use Rattle.reference_frames.specs.FrameTokens.{TokenState, block_of, firsts_of, partition_of, state_with}

-- as many rows as there are partitions read one each, in their order
abbrev pub FirstRowsReadOneEach : Type 0
FirstRowsReadOneEach = (state : TokenState) (row : ℕ) → row < length state.readers → partition_of state row ≡ row

-- and so do the rows after them
abbrev pub RowsReadInTurn : Type 0
RowsReadInTurn = (state : TokenState) (row : ℕ) → partition_of state (row + length state.readers) ≡ partition_of state row

-- a macroblock changes the reader of its row's partition only
abbrev pub KeepsOtherReaders : Type 0
KeepsOtherReaders =
    (state : TokenState) (column row other : ℕ) (read : Tokens × Reader) (none : Reader) → other ≢ partition_of state row →
    slice_index_or (state_with state column row read).readers other none ≡ slice_index_or state.readers other none

-- with Y2, index 0 of luma block k is result k of Y2
abbrev pub Y2GoesFirst : Type 0
Y2GoesFirst =
    (factors : Factors) (coefficients : List (List ℤ)) (k : ℕ) → k < 16 →
    slice_index_or (block_of factors (firsts_of factors true coefficients) coefficients k) 0 (pos 0) ≡ slice_index_or (inverse_wht (dequantised (slice_index_or coefficients 24 []) factors.y2_dc factors.y2_ac)) k (pos 0)

-- and the other coefficients are the block's own
abbrev pub Y2KeepsOthers : Type 0
Y2KeepsOthers =
    (factors : Factors) (coefficients : List (List ℤ)) (k index : ℕ) → k < 16 → index ≢ 0 →
    slice_index_or (block_of factors (firsts_of factors true coefficients) coefficients k) index (pos 0) ≡ slice_index_or (dequantised (slice_index_or coefficients k []) factors.y_dc factors.y_ac) index (pos 0)

-- without Y2 all are its own
abbrev pub NoY2KeepsAll : Type 0
NoY2KeepsAll =
    (factors : Factors) (coefficients : List (List ℤ)) (k : ℕ) → k < 16 →
    block_of factors (firsts_of factors false coefficients) coefficients k ≡ dequantised (slice_index_or coefficients k []) factors.y_dc factors.y_ac
