-- The residual of a macroblock as it is kept until it is added: what was read of its blocks, and how they are dequantised.
use Rattle.std.specs.Prelude.{◌≡◌, ℕ, nat_lt, if◌then◌else◌, List, [], ◌∷◌, map, replicate, slice_index_or, slice_set, ℤ, pos}
use Rattle.std.specs.List.{range_with_len}
use Rattle.bool_coder.specs.Reader.{Reader}
use Rattle.frame_header.specs.declared.header.Header.{Header}
use Rattle.mode_parser.specs.declared.records.MbMode.{MbMode}
use Rattle.token_parser.specs.Blocks.{macroblock, skipped, no_coefficients}
use Rattle.token_parser.specs.declared.tokens.Tokens.{Tokens}
use Rattle.transforms.specs.Factors.{dequantised, factors_of}
use Rattle.transforms.specs.declared.factor_set.Factors.{Factors}
use Rattle.reference_frames.specs.FrameTokens.{flag_with, has_y2}
use Rattle.reference_frames.specs.declared.kept_blocks.Flags.{Flags}
use Rattle.reference_frames.specs.declared.kept_blocks.TokenTables.{TokenTables}

-- block k: its first coefficient is dequantised already or a result of Y2, and it has others only if it ends after index 1
abbrev pub kept_block : Tokens → List ℤ → Factors → ℕ → List ℤ
kept_block tokens firsts factors k =
    let first = slice_index_or firsts k (pos 0) in
    let ac = if nat_lt k 16 then factors.y_ac else factors.uv_ac in
    if nat_lt 1 (slice_index_or tokens.ends k 0) then slice_set (dequantised (slice_index_or tokens.coefficients k []) ac ac) 0 first else first ∷ replicate 15 (pos 0)

-- the blocks that have samples
unfoldable pub kept_blocks : Tokens → List ℤ → Factors → List (List ℤ)
kept_blocks tokens firsts factors = map (kept_block tokens firsts factors) (range_with_len 0 24)

-- the tokens of a macroblock after these flags, and the reader after them; nothing is read if it is skipped
abbrev pub tokens_by : List ℕ → MbMode → Flags → Reader → Tokens × Reader
tokens_by probs mode flags reader =
    let before : Tokens = record { above = flags.above; left = flags.left; coefficients = no_coefficients; ends = replicate 25 0 } in
    if mode.is_skipped then (skipped (has_y2 mode.y_mode) before, reader) else macroblock probs (has_y2 mode.y_mode) before reader

-- the flags that it leaves
abbrev pub flags_with : MbMode → Tokens → Flags
flags_with mode tokens = record { above = tokens.above; left = tokens.left; has_tokens = flag_with mode tokens }

-- the factors of the four segments of a frame (section 9.6)
abbrev pub frame_factors : Header → List Factors
frame_factors header = map (factors_of header) (range_with_len 0 4)

-- what is made of a header once
pub record AreTablesOf (header : Header) (tables : TokenTables) : Type 0 where
  pub rows : tables.rows ≡ header.context.probabilities.coefficients
  pub factors : tables.factors ≡ frame_factors header
