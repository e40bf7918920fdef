-- The odds of tokens by the index of a block.
use Rattle.std.specs.Prelude.{◌≡◌, ℕ, ◌/◌, ◌%◌, ◌<◌, List, [], ◌∷◌, map, slice_index_or}
use Rattle.bool_coder.specs.Odds.{odds_of}
use Rattle.token_parser.specs.declared.rows.Context.{Context}
use Rattle.token_parser.specs.declared.rows.Row.{Row}
use Rattle.token_parser.specs.Tokens.{nodes_at}

-- the odds of the nodes in a context
unfoldable pub context_of : List ℕ → ℕ → ℕ → ℕ → Context
context_of probs kind place context = record { odds = map odds_of (nodes_at probs kind place context) }

-- a row has those of its three contexts: rows are the 16 indices of each of the 4 kinds of blocks
unfoldable pub row_of : List ℕ → ℕ → Row
row_of probs row = record { contexts = map (context_of probs (row / 16) (row % 16)) (0 ∷ 1 ∷ 2 ∷ []) }

-- the first rows, this many, are those of the probabilities
abbrev pub AreRows : ℕ → List ℕ → List Row → Type 0
AreRows count probs rows = (row : ℕ) → row < count → slice_index_or rows row (record { contexts = [] }) ≡ row_of probs row
