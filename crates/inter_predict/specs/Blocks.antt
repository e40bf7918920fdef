-- A block of samples among others.
use Rattle.std.specs.Prelude.{◌≡◌, ◌⊎◌, ℕ, ◌+◌, ◌*◌, ◌<◌, ◌≤◌, List, length, slice_index}

-- the block of `width` by `height` samples at the start of `new`, in rows `stride` samples apart, holds in each column of each row the sample that `sample` returns, and every other sample is as in `old`
pub record IsBlockIn (sample : ℕ → ℕ → ℕ) (width height stride : ℕ) (old new : List ℕ) : Type 0 where
  pub whole : length new ≡ length old
  pub each : (column row : ℕ) → column < width → row < height → slice_index new (row * stride + column) ≡ sample column row
  pub others : (column row : ℕ) → column < stride → (width ≤ column) ⊎ (height ≤ row) → slice_index new (row * stride + column) ≡ slice_index old (row * stride + column)
