-- A square of 8 by 8 samples that is predicted as four blocks of 4 by 4.
use Rattle.std.specs.Prelude.{◌≡◌, ℕ, ◌+◌, ℤ, pos}
use Rattle.inter_predict.specs.InterSample.{inter_sample}
use Rattle.inter_predict.specs.declared.kinds.Kind.{Kind}
use Rattle.pixel_planes.specs.Samples.{Samples}
use Rattle.reference_frames.specs.PlacedBlocks.{IsInSquare}
use Rattle.reference_frames.specs.declared.inter.FourVectors.{FourVectors}

-- the samples of the block that begins in column x of row y are predicted by this vector
abbrev pub IsByVector : Kind → Samples → ℤ × ℤ → ℕ → ℕ → (ℕ → ℕ → ℕ) → Type 0
IsByVector kind p vector x y sample = (i j : ℕ) → IsInSquare x y 4 i j → inter_sample kind p (pos i) (pos j) vector.0 vector.1 ≡ sample i j

-- and those of the square that begins there, by the vectors of its four blocks
pub record IsOfFour (kind : Kind) (p : Samples) (vectors : FourVectors) (x y : ℕ) (sample : ℕ → ℕ → ℕ) : Type 0 where
  pub first : IsByVector kind p vectors.first x y sample
  pub second : IsByVector kind p vectors.second (x + 4) y sample
  pub third : IsByVector kind p vectors.third x (y + 4) sample
  pub fourth : IsByVector kind p vectors.fourth (x + 4) (y + 4) sample
