-- A block of samples, row by row.
use Rattle.std.specs.Prelude.{◌≡◌, ◌⊎◌, ℕ, ◌+◌, ◌*◌, ◌<◌, ◌≤◌, List, length, slice_index}

-- `samples` are `side` rows of `side` samples, and `sample` returns the one in each column of each row
pub record IsBlock (side : ℕ) (sample : ℕ → ℕ → ℕ) (samples : List ℕ) : Type 0 where
  pub whole : length samples ≡ side * side
  pub each : (column row : ℕ) → column < side → row < side → slice_index samples (row * side + column) ≡ sample column row

-- the block of `width` by `height` samples at the start of `new`, in rows `stride` samples apart, holds in each column of each row the sample that `sample` returns, and every other sample is as in `old`
pub record IsBlockAmong (sample : ℕ → ℕ → ℕ) (width height stride : ℕ) (old new : List ℕ) : Type 0 where
  pub whole : length new ≡ length old
  pub each : (column row : ℕ) → column < width → row < height → slice_index new (row * stride + column) ≡ sample column row
  pub others : (column row : ℕ) → column < stride → (width ≤ column) ⊎ (height ≤ row) → slice_index new (row * stride + column) ≡ slice_index old (row * stride + column)
