-- Residuals that are added within a square.
use Rattle.std.specs.Prelude.{◌≡◌, ℕ, ◌+◌, ◌-◌, ◌*◌, ◌/◌, ◌%◌, ◌<◌, ◌≤◌, List, [], length, slice_index, slice_index_or, ℤ, pos, ◌+ℤ◌}
use Rattle.vp8_tables.specs.Bounds.{clamped_sample}
use Rattle.transforms.specs.Transforms.{inverse_dct}

-- column i of row j is in the `width` by 4 samples that begin in this column and row
abbrev pub IsInBlocks : ℕ → ℕ → ℕ → ℕ → ℕ → Type 0
IsInBlocks width column row i j = (column ≤ i) × (i < column + width) × (row ≤ j) × (j < row + 4)

-- a residual was added to such samples in rows of `across` samples, and every other sample is as it was
pub record IsAddedAt (residual : ℕ → ℕ → ℤ) (across width column row : ℕ) (old new : List ℕ) : Type 0 where
  pub whole : length new ≡ length old
  pub each : (i j : ℕ) → IsInBlocks width column row i j → slice_index new (j * across + i) ≡ clamped_sample (pos (slice_index old (j * across + i)) +ℤ residual (i - column) (j - row))
  pub others : (i j : ℕ) → i < across → (IsInBlocks width column row i j → ⊥) → slice_index new (j * across + i) ≡ slice_index old (j * across + i)

-- the residual of blocks next to each other, the first of which is block k
abbrev pub blocks_residual : List (List ℤ) → ℕ → ℕ → ℕ → ℤ
blocks_residual blocks k column row = inverse_dct (slice_index_or blocks (k + column / 4) []) (column % 4) row
