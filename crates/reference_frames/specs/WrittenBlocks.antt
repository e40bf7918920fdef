-- A block that is written among the samples of a plane.
use Rattle.std.specs.Prelude.{ℕ, zero, suc, ◌+◌, ◌*◌, List}
use Rattle.std.specs.Simd.Lanes.{put_chunk}
use Rattle.reference_frames.specs.Unfiltered.{block_row}

-- samples with the first n rows of a block written over them, the first at index `start` and each further one `stride` after the last
unfoldable pub block_rows_put : List ℕ → ℕ → ℕ → ℕ → (ℕ → ℕ → ℕ) → ℕ → List ℕ
block_rows_put samples start stride side sample zero = samples
block_rows_put samples start stride side sample (suc n) = put_chunk (start + n * stride) (block_rows_put samples start stride side sample n) (block_row side sample n)
