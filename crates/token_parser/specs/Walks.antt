-- The token tree starting at a node in its middle.
use Rattle.std.specs.Prelude.{ℕ, List}
use Rattle.bool_coder.specs.Reading.{Reading, ◌>>=◌}
use Rattle.bool_coder.specs.Trees.{leaf_below}
use Rattle.token_parser.specs.TokenTree.{token_tree, size_of}

-- the size to which at most so many bits lead
abbrev pub size_below : ℕ → List ℕ → ℕ → Reading ℕ
size_below bits nodes node = do
  t ← leaf_below bits token_tree nodes node
  size_of t
