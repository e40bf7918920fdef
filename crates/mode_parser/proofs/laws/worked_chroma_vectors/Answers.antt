use Rattle.std.proofs.Common.{◌≡◌, ℕ, ◌+◌, ◌/◌, ℤ, pos, ap, arith}
use Rattle.mode_parser.specs.ChromaVectors.{group_vector}
use Rattle.mode_parser.proofs.laws.worked_chroma_vectors.Goals as goal

pub returns-clause-same : goal.returns-clause-same
unfolding group_vector
returns-clause-same c = λ x.
    let mean : (x + x + x + x + 2) / 4 ≡ x = omega arith in
    ap (λ (z : ℕ). let v : ℤ × ℤ = (pos z, pos 0) in v) mean
