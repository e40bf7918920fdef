-- How a macroblock is filtered: its edges in order, and the lines of each edge (RFC 6386, sections 15.1 to 15.3).
use Rattle.std.specs.Prelude.{◌≡◌, ℕ, ◌+◌, ◌-◌, ◌*◌, ◌<◌, ◌≤◌, Bool, false, if◌then◌else◌, List, [], ◌∷◌, Option, Some, None}
use Rattle.loop_filter.specs.Lines.{Line, filtered_line}
use Rattle.loop_filter.specs.Edges.{lines_filtered}
use Rattle.loop_filter.specs.declared.blocks.Block.{Block}
use Rattle.loop_filter.specs.declared.edge_limits.Limits.{Limits}
use Rattle.loop_filter.specs.declared.edge_limits.EdgeLimits.{EdgeLimits}
use Rattle.loop_filter.specs.declared.edge_limits.EdgeFilter.{EdgeFilter}
use Rattle.loop_filter.specs.declared.edge_limits.EdgeFilter.TheVariants.{Simple, Inner, Macroblock}
use Rattle.loop_filter.specs.declared.strengths.Strength.{Strength}

-- the limits at an edge between macroblocks (`mbedge_limit`), and at one inside a macroblock (`sub_bedge_limit`)
abbrev pub outer_limits : Limits → EdgeLimits
outer_limits limits = record { edge = limits.macroblock_edge; interior = limits.interior; variance = limits.variance }

abbrev pub inner_limits : Limits → EdgeLimits
inner_limits limits = record { edge = limits.inner_edge; interior = limits.interior; variance = limits.variance }

-- the filters of these edges, in a frame with the simple filter or the normal one
abbrev pub outer_filter : Bool → EdgeFilter
outer_filter is_simple = if is_simple then Simple else Macroblock

abbrev pub inner_filter : Bool → EdgeFilter
inner_filter is_simple = if is_simple then Simple else Inner

-- the side of a macroblock's block in a plane, and the columns and rows before which its inner edges are
pub record Shape : Type 0 where
  pub side : ℕ
  pub inner : List ℕ

abbrev pub luma : Shape
luma = record { side = 16; inner = 4 ∷ 8 ∷ 12 ∷ [] }

abbrev pub chroma : Shape
chroma = record { side = 8; inner = 4 ∷ [] }

-- the edge before column x of a block, whose lines begin four samples to its left
unfoldable pub column_edge : (Line → Line) → ℕ → Block → ℕ → List ℕ → List ℕ
column_edge filter side block x samples = lines_filtered filter (block.start + x - 4) block.stride 1 samples side

-- the edge before row y of a block, whose lines begin four samples above it
unfoldable pub row_edge : (Line → Line) → ℕ → Block → ℕ → List ℕ → List ℕ
row_edge filter side block y samples = lines_filtered filter (block.start + y * block.stride - 4 * block.stride) 1 block.stride samples side

-- such edges in sequence
abbrev pub column_edges : (Line → Line) → ℕ → Block → List ℕ → List ℕ → List ℕ
column_edges filter side block [] samples = samples
column_edges filter side block (x ∷ more) samples = column_edges filter side block more (column_edge filter side block x samples)

abbrev pub row_edges : (Line → Line) → ℕ → Block → List ℕ → List ℕ → List ℕ
row_edges filter side block [] samples = samples
row_edges filter side block (y ∷ more) samples = row_edges filter side block more (row_edge filter side block y samples)

-- the left edge of a block, which has none in the first column of macroblocks
unfoldable pub left_edge : (Line → Line) → ℕ → Block → List ℕ → List ℕ
left_edge outer side block samples = if block.is_leftmost then samples else column_edge outer side block 0 samples

-- its inner vertical edges
unfoldable pub inner_columns : (Line → Line) → Shape → Bool → Block → List ℕ → List ℕ
inner_columns inner shape has_inner_edges block samples = if has_inner_edges then column_edges inner shape.side block shape.inner samples else samples

-- its top edge, which it has except in the first row of macroblocks
unfoldable pub top_edge : (Line → Line) → ℕ → Block → List ℕ → List ℕ
top_edge outer side block samples = if block.is_topmost then samples else row_edge outer side block 0 samples

-- its inner horizontal edges
unfoldable pub inner_rows : (Line → Line) → Shape → Bool → Block → List ℕ → List ℕ
inner_rows inner shape has_inner_edges block samples = if has_inner_edges then row_edges inner shape.side block shape.inner samples else samples

-- all of them, in this order (section 15.1)
abbrev pub block_filtered : Shape → Bool → Strength → Block → List ℕ → List ℕ
block_filtered shape is_simple strength block samples =
    let outer = filtered_line (outer_filter is_simple) (outer_limits strength.limits) in
    let inner = filtered_line (inner_filter is_simple) (inner_limits strength.limits) in
    let left = left_edge outer shape.side block samples in
    let columns = inner_columns inner shape strength.has_inner_edges block left in
    let top = top_edge outer shape.side block columns in
    inner_rows inner shape strength.has_inner_edges block top

-- the block of a macroblock after its filters, or unchanged if it has none
unfoldable pub filtered_by : Shape → Bool → Option Strength → Block → List ℕ → List ℕ
filtered_by shape is_simple None block samples = samples
filtered_by shape is_simple (Some strength) block samples = block_filtered shape is_simple strength block samples

-- the limits of edges are as small as those of levels up to 63
abbrev pub HasSmallLimits : Strength → Type 0
HasSmallLimits strength = (strength.limits.macroblock_edge < 255) × (strength.limits.inner_edge < 255)

-- the block is inside so many samples, with the samples that its filters read to its left and above it
pub record IsInside (side : ℕ) (block : Block) (count : ℕ) : Type 0 where
  pub wide : side ≤ block.stride
  pub left : block.is_leftmost ≡ false → 4 ≤ block.start
  pub above : block.is_topmost ≡ false → 4 * block.stride ≤ block.start
  pub room : block.start + (side - 1) * block.stride + side ≤ count
