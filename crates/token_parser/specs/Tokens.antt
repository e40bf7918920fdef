-- The tokens of a block (RFC 6386, section 13).
use Rattle.std.specs.Prelude.{ℕ, zero, suc, ◌+◌, Bool, true, false, ◌==◌, min, ℤ, pos, neg_ℤ, List, slice_index, slice_range, slice_set, if◌then◌else◌}
use Rattle.bool_coder.specs.Reading.{Reading, ◌>>=◌, give, flag}
use Rattle.vp8_tables.specs.Tables.{coefficient_index}
use Rattle.token_parser.specs.declared.places.TheConstants.{BANDS, ZIGZAG}
use Rattle.token_parser.specs.TokenTree.{end_of_block, token, size_of}

-- the probabilities of the tree's nodes for a kind of block, an index in it and the last token there (`coeff_probs` by block type, band and context, section 13.3)
abbrev pub nodes_at : List ℕ → ℕ → ℕ → ℕ → List ℕ
nodes_at probs kind place context =
    let start = coefficient_index kind (slice_index BANDS place) context 0 in slice_range probs start (start + 11)

-- a coefficient of a size, followed by its sign, where 1 is minus
unfoldable pub signed_size : ℕ → Reading ℤ
signed_size size = do
  is_minus ← flag
  give (if is_minus then neg_ℤ (pos size) else pos size)

-- the coefficients of a block after its tokens from an index on, of which at most so many are read, and the index
-- after the last of them (eob); the zigzag order maps the index of a coefficient to its raster index (section 13)
unfoldable pub tokens_from : ℕ → List ℕ → ℕ → ℕ → ℕ → Bool → List ℤ → Reading (List ℤ × ℕ)
tokens_from zero probs kind place context after_zero coefficients = give (coefficients, place)
tokens_from (suc more) probs kind place context after_zero coefficients = do
  t ← token (nodes_at probs kind place context) after_zero
  if t == end_of_block then give (coefficients, place) else if t == 0 then tokens_from more probs kind (place + 1) 0 true coefficients else (do
    size ← size_of t
    value ← signed_size size
    tokens_from more probs kind (place + 1) (min size 2) false (slice_set coefficients (slice_index ZIGZAG place) value))
