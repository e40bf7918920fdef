-- The filtered picture of a frame: its macroblocks in raster order, each by its own limits (RFC 6386, sections 9.4 and 15.1).
use Rattle.std.specs.Prelude.{◌≡◌, ℕ, zero, suc, ◌+◌, ◌*◌, ◌/◌, ◌==◌, Bool, true, false, ◌||◌, if◌then◌else◌, List, slice_get, slice_index_or, Option, Some, None}
use Rattle.frame_header.specs.declared.header.Header.{Header}
use Rattle.mode_parser.specs.declared.records.MbMode.{MbMode}
use Rattle.mode_parser.specs.declared.records.YMode.{YMode}
use Rattle.mode_parser.specs.declared.records.YMode.TheVariants.{Whole, B, Inter}
use Rattle.mode_parser.specs.SplitModes.{is_split}
use Rattle.pixel_planes.specs.Samples.{Samples, PlaneValue}
use Rattle.pixel_planes.specs.Pictures.{HasBlocks}
use Rattle.pixel_planes.specs.PlaneSamples.{PlaneSamples}
use Rattle.loop_filter.specs.Levels.{level_of}
use Rattle.loop_filter.specs.Strengths.{limits_of}
use Rattle.loop_filter.specs.Blocks.{Shape, luma, chroma, filtered_by}
use Rattle.loop_filter.specs.declared.blocks.Block.{Block}
use Rattle.loop_filter.specs.declared.strengths.Strength.{Strength}

-- whether a macroblock of this mode is split into blocks with modes or vectors of their own (`B_PRED` and `SPLITMV` in RFC 6386)
abbrev pub has_subblock_modes : YMode → Bool
has_subblock_modes (Whole mode) = false
has_subblock_modes B = true
has_subblock_modes (Inter reference mode) = is_split mode

-- the filter limits of a macroblock, by its record and whether one of its blocks has a token: none at level 0; its inner edges are skipped if it is neither split so nor has a token
unfoldable pub strength_of : Header → MbMode → Bool → Option Strength
strength_of header mode has_tokens =
    if level_of header mode == 0 then None
    else Some (record { limits = limits_of (level_of header mode) header.filter.sharpness header.is_key; has_inner_edges = has_subblock_modes mode.y_mode || has_tokens })

-- and of the macroblock at an index of the frame, if it has a record
abbrev pub strength_by : Header → Option MbMode → Bool → Option Strength
strength_by header None has_tokens = None
strength_by header (Some mode) has_tokens = strength_of header mode has_tokens

unfoldable pub strength_at : Header → List MbMode → List Bool → ℕ → Option Strength
strength_at header records flags place = strength_by header (slice_get records place) (slice_index_or flags place false)

-- the position of the block of the macroblock in column mx of row my among the samples of a plane of so many macroblocks in a row
abbrev pub block_at : ℕ → ℕ → ℕ → ℕ → Block
block_at side columns mx my = record {
  start = my * (side * (side * columns)) + side * mx;
  stride = side * columns;
  is_leftmost = mx == 0;
  is_topmost = my == 0;
}

-- the samples of a plane after the first macroblocks of row my, from the left
unfoldable pub row_filtered : Shape → Bool → (ℕ → Option Strength) → ℕ → ℕ → List ℕ → ℕ → List ℕ
row_filtered shape is_simple strength columns my samples zero = samples
row_filtered shape is_simple strength columns my samples (suc mx) =
    filtered_by shape is_simple (strength (my * columns + mx)) (block_at shape.side columns mx my) (row_filtered shape is_simple strength columns my samples mx)

-- and after its first rows of macroblocks, from the top
unfoldable pub rows_filtered : Shape → Bool → (ℕ → Option Strength) → ℕ → List ℕ → ℕ → List ℕ
rows_filtered shape is_simple strength columns samples zero = samples
rows_filtered shape is_simple strength columns samples (suc my) = row_filtered shape is_simple strength columns my (rows_filtered shape is_simple strength columns samples my) columns

-- a plane after all its macroblocks are filtered
abbrev pub plane_filtered : Shape → Bool → (ℕ → Option Strength) → ℕ → ℕ → Samples → Samples
plane_filtered shape is_simple strength columns rows plane = record plane { samples = rows_filtered shape is_simple strength columns plane.samples rows }

-- and after row my of them alone
abbrev pub plane_row_filtered : Shape → Bool → (ℕ → Option Strength) → ℕ → ℕ → Samples → Samples
plane_row_filtered shape is_simple strength columns my plane = record plane { samples = row_filtered shape is_simple strength columns my plane.samples columns }

-- the number of macroblocks in the planes of a picture, each way
abbrev pub columns_in : PlaneSamples → ℕ
columns_in planes = planes.luma.width / 16

abbrev pub rows_in : PlaneSamples → ℕ
rows_in planes = planes.luma.height / 16

-- each plane has a whole block for each of so many macroblocks, and nothing else
abbrev pub HaveBlocks : PlaneSamples → ℕ → ℕ → Type 0
HaveBlocks planes columns rows = HasBlocks planes.luma 16 columns rows × HasBlocks planes.cb 8 columns rows × HasBlocks planes.cr 8 columns rows

-- each plane keeps its sides
abbrev pub KeepSides : PlaneSamples → PlaneSamples → Type 0
KeepSides old new =
    (new.luma.width ≡ old.luma.width) × (new.luma.height ≡ old.luma.height) × (new.cb.width ≡ old.cb.width) × (new.cb.height ≡ old.cb.height) × (new.cr.width ≡ old.cr.width) × (new.cr.height ≡ old.cr.height)

-- a plane whose samples were filtered has a border as wide as before, which is out of date
abbrev pub HasOldBorder : PlaneValue → PlaneValue → Type 0
HasOldBorder old new = (new.border ≡ old.border) × (new.is_current ≡ false)

-- the planes after all macroblocks are filtered; the simple filter leaves chroma unchanged (section 15.2)
abbrev pub planes_filtered : Bool → (ℕ → Option Strength) → ℕ → ℕ → PlaneSamples → PlaneSamples
planes_filtered is_simple strength columns rows planes = record {
  luma = plane_filtered luma is_simple strength columns rows planes.luma;
  cb = if is_simple then planes.cb else plane_filtered chroma is_simple strength columns rows planes.cb;
  cr = if is_simple then planes.cr else plane_filtered chroma is_simple strength columns rows planes.cr;
}

-- the filtered picture of a frame, by the records of its macroblocks and whether a block of each has a token; a frame of level 0 is not filtered
unfoldable pub filtered_planes : Header → List MbMode → List Bool → PlaneSamples → PlaneSamples
filtered_planes header records flags planes =
    if header.filter.level == 0 then planes
    else planes_filtered header.filter.is_simple (strength_at header records flags) (columns_in planes) (rows_in planes) planes

-- the planes after row my of the macroblocks of such a frame is filtered
abbrev pub planes_row_filtered : Bool → (ℕ → Option Strength) → ℕ → ℕ → PlaneSamples → PlaneSamples
planes_row_filtered is_simple strength columns my planes = record {
  luma = plane_row_filtered luma is_simple strength columns my planes.luma;
  cb = if is_simple then planes.cb else plane_row_filtered chroma is_simple strength columns my planes.cb;
  cr = if is_simple then planes.cr else plane_row_filtered chroma is_simple strength columns my planes.cr;
}

unfoldable pub filtered_row : Header → List MbMode → List Bool → ℕ → PlaneSamples → PlaneSamples
filtered_row header records flags my planes =
    if header.filter.level == 0 then planes
    else planes_row_filtered header.filter.is_simple (strength_at header records flags) (columns_in planes) my planes
