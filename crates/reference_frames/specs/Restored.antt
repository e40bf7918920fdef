-- Samples with their residual (RFC 6386, section 14.5).
use Rattle.std.specs.Prelude.{ℕ, ◌+◌, ◌*◌, ◌/◌, ◌%◌, List, [], slice_index_or, Option, None, Some, ℤ, pos, ◌+ℤ◌}
use Rattle.vp8_tables.specs.Bounds.{clamped_sample}
use Rattle.transforms.specs.Transforms.{inverse_dct}

-- the residual of a macroblock: the dequantised coefficients of its blocks of 4 by 4 samples, which are 16 of luma, 4 of U
-- and 4 of V, each in raster order; a macroblock without coefficients has none
abbrev pub Residual : Type 0
Residual = Option (List (List ℤ))

-- the block that has a sample of a square of this side, whose blocks are numbered starting at `first`
abbrev pub block_at : ℕ → ℕ → ℕ → ℕ → ℕ
block_at side first column row = first + (row / 4 * (side / 4) + column / 4)

-- the samples of a square of this side with the residuals of its blocks, clamped to 0..255
abbrev pub restored : ℕ → ℕ → Residual → (ℕ → ℕ → ℕ) → ℕ → ℕ → ℕ
restored side first None sample = sample
restored side first (Some blocks) sample = λ column row.
    clamped_sample (pos (sample column row) +ℤ inverse_dct (slice_index_or blocks (block_at side first column row) []) (column % 4) (row % 4))
