-- Coefficients that a block still holds of another macroblock.
use Rattle.std.specs.Prelude.{ℕ, Bool, List, [], ℤ, pos, map, replicate, slice_index_or, if◌then◌else◌}
use Rattle.std.specs.List.{range_with_len}
use Rattle.token_parser.specs.declared.tokens.Tokens.{Tokens}
use Rattle.token_parser.specs.Blocks.{has_token}

-- the coefficients of a block, which has none without a token
abbrev pub own_coefficients : Bool → Tokens → ℕ → List ℤ
own_coefficients has_y2 tokens index = if has_token has_y2 tokens index then slice_index_or tokens.coefficients index [] else replicate 16 (pos 0)

-- the same tokens, where blocks without a token have no coefficients
unfoldable pub without_stale : Bool → Tokens → Tokens
without_stale has_y2 tokens = record tokens { coefficients = map (own_coefficients has_y2 tokens) (range_with_len 0 25) }

-- the tokens that were read, where blocks may hold stale coefficients or none does
abbrev pub seen : Bool → Bool → Tokens → Tokens
seen may_be_stale has_y2 tokens = if may_be_stale then without_stale has_y2 tokens else tokens
