-- The ends of blocks, and the coefficients before them.
use Rattle.std.specs.Prelude.{◌≡◌, ℕ, ◌<◌, ◌≤◌, List, [], ◌∷◌, replicate, slice_index_or, ℤ, pos}
use Rattle.token_parser.specs.declared.tokens.Tokens.{Tokens}

-- a block has no coefficient after its first
abbrev pub IsFirstAlone : List ℤ → Type 0
IsFirstAlone coefficients = coefficients ≡ slice_index_or coefficients 0 (pos 0) ∷ replicate 15 (pos 0)

-- nor has any that ends at index 1 or before
abbrev pub EndsHold : Tokens → Type 0
EndsHold tokens = (k : ℕ) → k < 25 → slice_index_or tokens.ends k 0 ≤ 1 → IsFirstAlone (slice_index_or tokens.coefficients k [])
