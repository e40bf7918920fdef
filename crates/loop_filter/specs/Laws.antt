-- Examples and statements that laws cite.
use Rattle.std.specs.Prelude.{◌≡◌, ◌≢◌, ℕ, zero, suc, ◌+◌, ◌-◌, ◌*◌, ◌/◌, ◌%◌, ◌<◌, ◌≤◌, length, slice_index, Bool, false, if◌then◌else◌, List, [], ◌∷◌, ◌++◌, pos, negsuc, Option, None, IfSome}
use Rattle.frame_header.specs.declared.context.FilterDeltas.{FilterDeltas}
use Rattle.frame_header.specs.declared.context.Segments.{Segments}
use Rattle.frame_header.specs.declared.header.Header.{Header}
use Rattle.intra_predict.specs.declared.modes.WholeMode.{WholeMode}
use Rattle.mode_parser.specs.declared.records.MbMode.{MbMode}
use Rattle.mode_parser.specs.declared.records.YMode.TheVariants.{Whole}
use Rattle.pixel_planes.specs.Samples.{Samples}
use Rattle.pixel_planes.specs.PlaneSamples.{PlaneSamples}
use Rattle.loop_filter.specs.Levels.{level_of}
use Rattle.loop_filter.specs.Lines.{Line}
use Rattle.loop_filter.specs.Edges.{line_in}
use Rattle.loop_filter.specs.Blocks.{Shape, luma, chroma, column_edge, row_edge, filtered_by}
use Rattle.loop_filter.specs.declared.blocks.Block.{Block}
use Rattle.loop_filter.specs.declared.edge_limits.EdgeLimits.{EdgeLimits}
use Rattle.loop_filter.specs.Frames.{HaveBlocks, block_at, strength_at, strength_of, columns_in, rows_in, rows_filtered, filtered_planes}
use Rattle.loop_filter.specs.declared.edge_limits.Limits.{Limits}
use Rattle.loop_filter.specs.declared.strengths.Strength.{Strength}

-- changes of the level: 2, 0, -2, -3 by reference and 4, -2, 1, 5 by mode
abbrev pub worked_deltas : FilterDeltas
worked_deltas = record {
  reference = pos 2 ∷ pos 0 ∷ negsuc 1 ∷ negsuc 2 ∷ [];
  mode = pos 4 ∷ negsuc 1 ∷ pos 1 ∷ pos 5 ∷ [];
}

-- levels of segments that are absolute, or are added: 10, 20, -30 and 40
abbrev pub worked_segments : Bool → Segments
worked_segments is_absolute = record { is_absolute = is_absolute; quantizers = pos 0 ∷ pos 0 ∷ pos 0 ∷ pos 0 ∷ []; levels = pos 10 ∷ pos 20 ∷ negsuc 29 ∷ pos 40 ∷ [] }

-- limits of these values
abbrev pub limits_are : ℕ → ℕ → ℕ → ℕ → Limits
limits_are interior variance macroblock_edge inner_edge = record { interior = interior; variance = variance; macroblock_edge = macroblock_edge; inner_edge = inner_edge }

-- a frame of level 0 is not filtered, whatever its macroblocks are
abbrev pub LeavesFramesOfLevel0 : Type 0
LeavesFramesOfLevel0 = (header : Header) (records : List MbMode) (flags : List Bool) (planes : PlaneSamples) → header.filter.level ≡ 0 → filtered_planes header records flags planes ≡ planes

-- a macroblock of level 0 is not filtered
abbrev pub LeavesMacroblocksOfLevel0 : Type 0
LeavesMacroblocksOfLevel0 = (header : Header) (mode : MbMode) (has_tokens : Bool) → level_of header mode ≡ 0 → strength_of header mode has_tokens ≡ None

-- a macroblock that is predicted as a whole and has no token has no inner edges
abbrev pub LeavesInnerEdges : Type 0
LeavesInnerEdges = (header : Header) (mode : MbMode) (whole : WholeMode) → mode.y_mode ≡ Whole whole → IfSome (strength_of header mode false) (λ strength. strength.has_inner_edges ≡ false)

-- a plane after one macroblock
abbrev pub macroblock_in_plane : Shape → Bool → Option Strength → ℕ → ℕ → ℕ → Samples → Samples
macroblock_in_plane shape is_simple strength columns mx my plane = record plane { samples = filtered_by shape is_simple strength (block_at shape.side columns mx my) plane.samples }

-- the three planes after one macroblock
abbrev pub macroblock_in_planes : Bool → Option Strength → ℕ → ℕ → ℕ → PlaneSamples → PlaneSamples
macroblock_in_planes is_simple strength columns mx my planes = record {
  luma = macroblock_in_plane luma is_simple strength columns mx my planes.luma;
  cb = if is_simple then planes.cb else macroblock_in_plane chroma is_simple strength columns mx my planes.cb;
  cr = if is_simple then planes.cr else macroblock_in_plane chroma is_simple strength columns mx my planes.cr;
}

-- and after the first n macroblocks of a frame, in raster order
unfoldable pub macroblocks_in_planes : Bool → (ℕ → Option Strength) → ℕ → PlaneSamples → ℕ → PlaneSamples
macroblocks_in_planes is_simple strength columns planes zero = planes
macroblocks_in_planes is_simple strength columns planes (suc n) = macroblock_in_planes is_simple (strength n) columns (n % columns) (n / columns) (macroblocks_in_planes is_simple strength columns planes n)

-- the filtered picture is the result of filtering the three planes macroblock by macroblock
abbrev pub GoesMacroblockByMacroblock : Type 0
GoesMacroblockByMacroblock =
    (header : Header) (records : List MbMode) (flags : List Bool) (planes : PlaneSamples) → 0 < header.filter.level →
    filtered_planes header records flags planes ≡ macroblocks_in_planes header.filter.is_simple (strength_at header records flags) (columns_in planes) planes (columns_in planes * rows_in planes)

-- the first n rows of macroblocks are filtered as if the plane ended there: no sample below them is read or changed, and there are as many as before
abbrev pub FiltersRowsAlone : Shape → Type 0
FiltersRowsAlone shape =
    (is_simple : Bool) (strength : ℕ → Option Strength) (columns n : ℕ) (front rest : List ℕ) → length front ≡ n * (shape.side * (shape.side * columns)) →
    (rows_filtered shape is_simple strength columns (front ++ rest) n ≡ rows_filtered shape is_simple strength columns front n ++ rest) × (length (rows_filtered shape is_simple strength columns front n) ≡ length front)

-- the sides of planes of so many macroblocks determine their number
abbrev pub SidesFixMacroblocks : Type 0
SidesFixMacroblocks = (planes : PlaneSamples) (columns rows : ℕ) → HaveBlocks planes columns rows → (columns_in planes ≡ columns) × (rows_in planes ≡ rows)

-- an edge of `count` lines changed each line by itself, and every sample of no line is unchanged
pub record ChangesItsLines (filter : Line → Line) (count start between across : ℕ) (old new : List ℕ) : Type 0 where
  pub whole : length new ≡ length old
  pub lines : (i : ℕ) → i < count → start + i * between + 7 * across < length old → line_in new (start + i * between) across ≡ filter (line_in old (start + i * between) across)
  pub others : (place : ℕ) → ((i k : ℕ) → i < count → k < 8 → place ≢ start + i * between + k * across) → slice_index new place ≡ slice_index old place

-- each edge of a block does so, between columns and between rows
abbrev pub ColumnEdgesChangeTheirLines : Type 0
ColumnEdgesChangeTheirLines =
    (filter : Line → Line) (side : ℕ) (block : Block) (x : ℕ) (samples : List ℕ) → 8 ≤ block.stride → ChangesItsLines filter side (block.start + x - 4) block.stride 1 samples (column_edge filter side block x samples)

abbrev pub RowEdgesChangeTheirLines : Type 0
RowEdgesChangeTheirLines =
    (filter : Line → Line) (side : ℕ) (block : Block) (y : ℕ) (samples : List ℕ) → side ≤ block.stride → 1 ≤ block.stride → ChangesItsLines filter side (block.start + y * block.stride - 4 * block.stride) 1 block.stride samples (row_edge filter side block y samples)

-- the samples of a line across an edge, and the limits of an edge
abbrev pub line_of : List ℕ → Line
line_of samples = line_in samples 0 1

abbrev pub edge_limits_are : ℕ → ℕ → ℕ → EdgeLimits
edge_limits_are edge interior variance = record { edge = edge; interior = interior; variance = variance }

-- a line with a step of 20 at the edge, which is measured as 54; the greatest difference next to it is 5, between p1 and p0
abbrev pub worked_line : Line
worked_line = line_of (90 ∷ 92 ∷ 95 ∷ 100 ∷ 120 ∷ 124 ∷ 126 ∷ 128 ∷ [])

-- a line that is flat on both sides of a step of 64, so large that the filters' numbers are clamped
abbrev pub worked_step : Line
worked_step = line_of (0 ∷ 0 ∷ 0 ∷ 0 ∷ 64 ∷ 64 ∷ 64 ∷ 64 ∷ [])
