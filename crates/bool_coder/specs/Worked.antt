use Rattle.std.specs.Prelude.{ℕ, zero, suc, ℤ, pos, negsuc, List, [], ◌∷◌}
use Rattle.bool_coder.specs.Chains.{Chain, done, ask}

-- the tree {-0, 2, -1, 4, -2, -3}
abbrev pub steps : List ℤ
steps = pos 0 ∷ pos 2 ∷ negsuc 0 ∷ pos 4 ∷ negsuc 1 ∷ negsuc 2 ∷ []

-- so many bits at even odds, whatever they are
abbrev pub even_bits : ℕ → Chain (Unit {0})
even_bits zero = done tt
even_bits (suc more) = ask 128 (even_bits more) (even_bits more)
