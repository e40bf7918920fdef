-- Samples that are written within a square.
use Rattle.std.specs.Prelude.{◌≡◌, ℕ, ◌+◌, ◌-◌, ◌*◌, ◌<◌, ◌≤◌, List, length, slice_index}

-- column i of row j is in the square of this side that begins in column x of row y
abbrev pub IsInSquare : ℕ → ℕ → ℕ → ℕ → ℕ → Type 0
IsInSquare x y side i j = (x ≤ i) × (i < x + side) × (y ≤ j) × (j < y + side)

-- the sample in a column and row of a plane, by a block that begins in column x of row y and has its own columns and rows
abbrev pub from_corner : ℕ → ℕ → (ℕ → ℕ → ℕ) → ℕ → ℕ → ℕ
from_corner x y sample column row = sample (column - x) (row - y)

-- the sample in a column and row of the part that begins in column x of row y, in rows of `across` samples
abbrev pub square_from : List ℕ → ℕ → ℕ → ℕ → ℕ → ℕ → ℕ
square_from samples across x y column row = slice_index samples ((y + row) * across + (x + column))

-- in rows of `across` samples, `sample` returns the samples of the square of this side that begins in this column and row, and every other sample is as it was
pub record IsPlaced (sample : ℕ → ℕ → ℕ) (across side column row : ℕ) (old new : List ℕ) : Type 0 where
  pub whole : length new ≡ length old
  pub each : (i j : ℕ) → IsInSquare column row side i j → slice_index new (j * across + i) ≡ sample i j
  pub others : (i j : ℕ) → i < across → (IsInSquare column row side i j → ⊥) → slice_index new (j * across + i) ≡ slice_index old (j * across + i)
