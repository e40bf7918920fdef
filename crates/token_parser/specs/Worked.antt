-- Examples that laws cite.
use Rattle.std.specs.Prelude.{◌≡◌, ℕ, ◌+◌, Bool, true, false, ℤ, pos, List, [], ◌∷◌, ◌++◌, map, replicate, slice_index_or, unsigned_abs}
use Rattle.std.specs.Int.{from_bool}
use Rattle.bool_coder.specs.Reader.{Reader, started}
use Rattle.bool_coder.specs.CodeText.{code_text}
use Rattle.token_parser.specs.declared.tokens.Tokens.{Tokens}
use Rattle.token_parser.specs.TokenTree.{token_tree}

-- the entry of the token tree to which the bits of a walk lead from a node
abbrev pub entry_after : ℕ → List Bool → ℤ
entry_after node [] = pos node
entry_after node (bit ∷ []) = slice_index_or token_tree (node + from_bool bit) (pos 0)
entry_after node (bit ∷ bits) = entry_after (unsigned_abs (slice_index_or token_tree (node + from_bool bit) (pos 0))) bits

-- a reader of bits that were written at even odds
abbrev pub reader_of : List Bool → Reader
reader_of bits = started (code_text (map (λ bit. (bit, 128)) bits))

-- every probability is 128
abbrev pub even_odds : List ℕ
even_odds = replicate 1056 128

-- the tokens 2, followed by the sign minus, 0, 4, followed by plus, and the end of the block
abbrev pub three_tokens : List Bool
three_tokens = (true ∷ true ∷ true ∷ false ∷ false ∷ true ∷ []) ++ (true ∷ false ∷ []) ++ (true ∷ true ∷ false ∷ true ∷ true ∷ false ∷ []) ++ false ∷ []

-- the flags, the coefficients and the end of Y2 are the same
pub record HasSameY2 (old new : Tokens) : Type 0 where
  pub above : slice_index_or new.above 8 false ≡ slice_index_or old.above 8 false
  pub left : slice_index_or new.left 8 false ≡ slice_index_or old.left 8 false
  pub coefficients : slice_index_or new.coefficients 24 [] ≡ slice_index_or old.coefficients 24 []
  pub end : slice_index_or new.ends 24 0 ≡ slice_index_or old.ends 24 0
