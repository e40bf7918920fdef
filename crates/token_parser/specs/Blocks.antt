-- The tokens of a macroblock (RFC 6386, sections 13.1 to 13.3).
use Rattle.std.specs.Prelude.{ℕ, zero, suc, ◌+◌, ◌-◌, ◌/◌, ◌%◌, ◌==◌, ◌||◌, ◌&&◌, ◌<◌, ◌≤◌, Bool, false, nat_lt, ℤ, pos, List, [], ◌∷◌, ◌++◌, map, replicate, slice_index_or, slice_set, if◌then◌else◌}
use Rattle.std.specs.List.{list_any, range_with_len}
use Rattle.std.specs.Int.{from_bool}
use Rattle.bool_coder.specs.Reading.{Reading, ◌>>=◌, give}
use Rattle.token_parser.specs.declared.tokens.Tokens.{Tokens}
use Rattle.token_parser.specs.declared.block_position.BlockPosition.{BlockPosition}
use Rattle.token_parser.specs.Tokens.{tokens_from}

-- the position of a block: its kind, the index of its first token, its number, and the numbers of the flags above it and
-- to its left. Y2 has kind 1, chroma 2, luma 0 after Y2, which has its first coefficients, and 3 without Y2
abbrev pub y2_position : BlockPosition
y2_position = record { kind = 1; first = 0; index = 24; above = 8; left = 8 }

abbrev pub luma_position : Bool → ℕ → BlockPosition
luma_position has_y2 n = record { kind = if has_y2 then 0 else 3; first = from_bool has_y2; index = n; above = n % 4; left = n / 4 }

abbrev pub chroma_position : ℕ → ℕ → ℕ → BlockPosition
chroma_position blocks flags n = record { kind = 2; first = 0; index = blocks + n; above = flags + n % 2; left = flags + n / 2 }

-- the blocks in the order of their tokens: Y2, 16 of luma, 4 of U, 4 of V (section 13)
abbrev pub place_of : Bool → ℕ → BlockPosition
place_of has_y2 k = if k == 0 then y2_position else if nat_lt k 17 then luma_position has_y2 (k - 1) else if nat_lt k 21 then chroma_position 16 4 (k - 17) else chroma_position 20 6 (k - 21)

-- a position of one of the 25 blocks
pub record IsInside (at : BlockPosition) : Type 0 where
  pub kind : at.kind < 4
  pub first : at.first ≤ 1
  pub index : at.index < 25
  pub above : at.above < 9
  pub left : at.left < 9

-- a block is read in the context of the flags above and to the left, and sets both to whether it has a token,
-- whatever the values are (section 13.3)
unfoldable pub block : List ℕ → BlockPosition → Tokens → Reading Tokens
block probs at before = do
  let context = from_bool (slice_index_or before.left at.left false) + from_bool (slice_index_or before.above at.above false)
  tokens_read ← tokens_from (16 - at.first) probs at.kind at.first context false (slice_index_or before.coefficients at.index [])
  let has_token = nat_lt at.first tokens_read.1
  give (record { above = slice_set before.above at.above has_token; left = slice_set before.left at.left has_token; coefficients = slice_set before.coefficients at.index tokens_read.0; ends = slice_set before.ends at.index tokens_read.1 })

-- the first k blocks of a macroblock, of which the first is skipped if it has no Y2
unfoldable pub first_blocks : ℕ → List ℕ → Bool → Tokens → Reading Tokens
first_blocks zero probs has_y2 before = give before
first_blocks (suc k) probs has_y2 before = do
  here ← first_blocks k probs has_y2 before
  if nat_lt 0 k || has_y2 then block probs (place_of has_y2 k) here else give here

-- the tokens of a macroblock
abbrev pub macroblock : List ℕ → Bool → Tokens → Reading Tokens
macroblock = first_blocks 25

-- the index of a block's first token: luma after Y2 begins at index 1
abbrev pub first_position : Bool → ℕ → ℕ
first_position has_y2 index = if has_y2 && nat_lt index 16 then 1 else 0

-- whether a block of a macroblock has a token, whatever the values are (section 13.3)
abbrev pub has_token : Bool → Tokens → ℕ → Bool
has_token has_y2 tokens_read index = nat_lt (first_position has_y2 index) (slice_index_or tokens_read.ends index 0)

-- and whether one of its 25 blocks has one
unfoldable pub has_tokens : Bool → Tokens → Bool
has_tokens has_y2 tokens_read = list_any (λ has. has) (map (has_token has_y2 tokens_read) (range_with_len 0 25))

-- a macroblock without tokens clears its flags; the flag of Y2 is unchanged if it has no Y2 (section 13.3)
abbrev pub no_flags : Bool → List Bool → List Bool
no_flags has_y2 flags = replicate 8 false ++ (if has_y2 then false else slice_index_or flags 8 false) ∷ []

abbrev pub skipped : Bool → Tokens → Tokens
skipped has_y2 before = record before { above = no_flags has_y2 before.above; left = no_flags has_y2 before.left }

-- blocks without coefficients
abbrev pub no_coefficients : List (List ℤ)
no_coefficients = replicate 25 (replicate 16 (pos 0))

-- the state at the start of a frame, outside which no block has a token
abbrev pub no_tokens : Tokens
no_tokens = record { above = replicate 9 false; left = replicate 9 false; coefficients = no_coefficients; ends = replicate 25 0 }

-- the same flags, and blocks without coefficients
abbrev pub cleared : Tokens → Tokens
cleared before = record before { coefficients = no_coefficients; ends = replicate 25 0 }
