-- The arguments of the loops of a frame's filter.
use Rattle.std.specs.Prelude.{◌≡◌, ◌==◌, ℕ, false, ◌+◌, ◌*◌, ◌<◌, ◌≤◌, length, List, Option}
use Rattle.frame_header.specs.declared.header.Header.{Header}
use Rattle.mode_parser.specs.declared.records.MbMode.{MbMode}
use Rattle.pixel_planes.specs.Layout.{rows_of}
use Rattle.pixel_planes.specs.Samples.{PlaneValue}
use Rattle.loop_filter.specs.Blocks.{Shape, filtered_by}
use Rattle.loop_filter.specs.Frames.{strength_at, row_filtered}
use Rattle.loop_filter.specs.Strengths.{AreLimits}
use Rattle.loop_filter.specs.declared.blocks.Block.{Block}
use Rattle.loop_filter.specs.declared.frames.Macroblocks.{Macroblocks}
use Rattle.loop_filter.specs.declared.frames.RowFilter.{RowFilter}
use Rattle.loop_filter.specs.declared.macroblocks.Macroblock.{Macroblock}
use Rattle.loop_filter.specs.declared.strengths.Strength.{Strength}

-- each macroblock has a record, and there are 1 to 1,024 each way; the limits are those of the frame
pub record IsFrame (all : Macroblocks) : Type 0 where
  pub records : length all.records.now ≡ all.columns * all.rows
  pub limits : AreLimits all.header.now.filter.sharpness all.header.now.is_key all.limits.now
  pub some : (0 < all.columns) × (0 < all.rows)
  pub small : (all.columns ≤ 1024) × (all.rows ≤ 1024)

-- each macroblock of row my and of the rows above it has a flag
abbrev pub HasFlags : Macroblocks → ℕ → Type 0
HasFlags all my = (my + 1) * all.columns ≤ length all.flags.now

-- the filter of a frame with this header and these records
pub record IsFilterOf (header : Header) (records : List MbMode) (filter : RowFilter) : Type 0 where
  pub same_header : filter.header.now ≡ header
  pub same_records : filter.records.now ≡ records
  pub limits : AreLimits header.filter.sharpness header.is_key filter.limits

-- so many samples are a plane with a block of this side for each macroblock, in rows `stride` apart
abbrev pub IsPlane : ℕ → Macroblocks → ℕ → ℕ → Type 0
IsPlane side all stride count = (side * all.columns ≤ stride) × (stride ≤ 16512) × (count ≡ side * all.rows * stride)

-- the samples of that plane, row after row
abbrev pub plane_in : Shape → Macroblocks → ℕ → List ℕ → List ℕ
plane_in shape all stride samples = rows_of samples 0 stride (shape.side * all.columns) (shape.side * all.rows)

-- the position of the block of the macroblock in column mx of row my among samples in rows `stride` apart
abbrev pub block_apart : ℕ → ℕ → ℕ → ℕ → Block
block_apart side stride mx my = record {
  start = my * (side * stride) + side * mx;
  stride = stride;
  is_leftmost = mx == 0;
  is_topmost = my == 0;
}

-- the position of the blocks of a macroblock in the chroma planes
abbrev pub chroma_block : Macroblock → Block
chroma_block at = record { start = at.chroma; stride = at.chroma_stride; is_leftmost = at.luma.is_leftmost; is_topmost = at.luma.is_topmost }

-- how each macroblock is filtered
abbrev pub strengths : Macroblocks → ℕ → Option Strength
strengths all = strength_at all.header.now all.records.now all.flags.now

-- samples in rows `stride` apart after one macroblock
abbrev pub macroblock_filtered : Shape → Macroblocks → ℕ → ℕ → ℕ → List ℕ → List ℕ
macroblock_filtered shape all stride mx my samples = filtered_by shape all.header.now.filter.is_simple (strengths all (my * all.columns + mx)) (block_apart shape.side stride mx my) samples

-- the samples of a plane after the first n macroblocks of row my
abbrev pub row_of_all : Shape → Macroblocks → ℕ → List ℕ → ℕ → List ℕ
row_of_all shape all my samples n = row_filtered shape all.header.now.filter.is_simple (strengths all) all.columns my samples n

-- a plane after row my of its macroblocks is filtered; its border is then out of date
abbrev pub with_row_filtered : Shape → Macroblocks → ℕ → PlaneValue → PlaneValue
with_row_filtered shape all my plane = record plane { shown = record plane.shown { samples = row_of_all shape all my plane.shown.samples all.columns }; is_current = false }
