-- Examples that laws speak of.
use Rattle.std.specs.Prelude.{ℤ, pos, neg_ℤ, List, [], ◌∷◌}
use Rattle.mode_parser.specs.Vectors.{MotionVector}

abbrev pub vector : ℤ → ℤ → MotionVector
vector x y = record { x = x; y = y }

-- the vectors of a split macroblock, four blocks a row, with signs mixed: their sums over the four groups are (-6, -7), (-2, 8), (-2, -5) and (-1, 7)
abbrev pub mixed_vectors : List MotionVector
mixed_vectors =
    vector (pos 5) (neg_ℤ (pos 3)) ∷ vector (neg_ℤ (pos 9)) (pos 1) ∷ vector (pos 7) (pos 7) ∷ vector (pos 0) (pos 0)
    ∷ vector (neg_ℤ (pos 3)) (neg_ℤ (pos 5)) ∷ vector (pos 1) (pos 0) ∷ vector (neg_ℤ (pos 8)) (pos 2) ∷ vector (neg_ℤ (pos 1)) (neg_ℤ (pos 1))
    ∷ vector (neg_ℤ (pos 1)) (neg_ℤ (pos 1)) ∷ vector (neg_ℤ (pos 1)) (neg_ℤ (pos 2)) ∷ vector (pos 100) (neg_ℤ (pos 100)) ∷ vector (neg_ℤ (pos 30)) (pos 60)
    ∷ vector (pos 0) (neg_ℤ (pos 1)) ∷ vector (pos 0) (neg_ℤ (pos 1)) ∷ vector (neg_ℤ (pos 50)) (pos 30) ∷ vector (neg_ℤ (pos 21)) (pos 17) ∷ []
