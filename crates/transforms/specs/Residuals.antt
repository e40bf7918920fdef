-- Residuals that are added to blocks of 4 by 4 samples (RFC 6386, section 14.5).
use Rattle.std.specs.Prelude.{◌≡◌, ◌⊎◌, ℕ, ◌+◌, ◌*◌, ◌/◌, ◌%◌, ◌<◌, ◌≤◌, [], ◌∷◌, List, length, replicate, slice_index, slice_index_or, ℤ, pos, ◌+ℤ◌}
use Rattle.vp8_tables.specs.Bounds.{clamped_sample}
use Rattle.transforms.specs.Transforms.{inverse_dct}

-- a residual was added to each sample of the `width` by 4 at the start, in rows `stride` samples apart, and every other sample is unchanged
pub record IsAdded (residual : ℕ → ℕ → ℤ) (width stride : ℕ) (old new : List ℕ) : Type 0 where
  pub whole : length new ≡ length old
  pub each : (column row : ℕ) → column < width → row < 4 → slice_index new (row * stride + column) ≡ clamped_sample (pos (slice_index old (row * stride + column)) +ℤ residual column row)
  pub others : (column row : ℕ) → column < stride → (width ≤ column) ⊎ (4 ≤ row) → slice_index new (row * stride + column) ≡ slice_index old (row * stride + column)

-- the residual of blocks next to each other, each with only a first coefficient
unfoldable pub firsts_residual : List ℤ → ℕ → ℕ → ℤ
firsts_residual firsts column row = inverse_dct (slice_index_or firsts (column / 4) (pos 0) ∷ replicate 15 (pos 0)) (column % 4) row

-- the residual of two blocks next to each other
unfoldable pub pair_residual : List ℤ → List ℤ → ℕ → ℕ → ℤ
pair_residual first second column row = inverse_dct (slice_index_or (first ∷ second ∷ []) (column / 4) []) (column % 4) row

-- `width` residuals were added to the samples starting at `start`, and every other sample is unchanged
pub record IsRowAdded (width : ℕ) (residuals : List ℤ) (start : ℕ) (old new : List ℕ) : Type 0 where
  pub whole : length new ≡ length old
  pub each : (column : ℕ) → column < width → slice_index new (start + column) ≡ clamped_sample (pos (slice_index old (start + column)) +ℤ slice_index_or residuals column (pos 0))
  pub others : (place : ℕ) → (place < start) ⊎ (start + width ≤ place) → slice_index new place ≡ slice_index old place
