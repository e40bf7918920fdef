-- The planes of a frame are whole, and each of their samples is a byte.
use lib.Lanes.{Each1}
use Rattle.std.proofs.Common.{◌≡◌, ℕ, zero, suc, ◌+◌, ◌-◌, ◌*◌, ◌/◌, ◌%◌, ◌<◌, ◌≤◌, ◌==◌, Bool, true, false, List, [], ◌∷◌, length, map, take, drop, replicate, slice_get, slice_index_or, Option, Some, None, refl, ap, ◌∙◌, arith, ℤ, pos, ◌+ℤ◌, min, nat_lt, if◌then◌else◌}
use Rattle.std.specs.Prelude.{slice_index}
use Rattle.std.specs.List.{range_with_len}
use Rattle.std.specs.Simd.Lanes.{put_chunk}
use Rattle.std.proofs.lemmas.List.{length-replicate}
use Rattle.std.proofs.lemmas.Simd.{Each1-put_chunk, Each1-replicate, length-put_chunk}
use Rattle.vp8_tables.specs.Bounds.{clamped_sample}
use Rattle.frame_header.specs.declared.header.Header.{Header}
use Rattle.frame_header.specs.declared.references.Reference.{Reference}
use Rattle.intra_predict.specs.declared.modes.SubMode.{SubMode}
use Rattle.intra_predict.specs.declared.modes.SubMode.TheVariants.{Dc}
use Rattle.intra_predict.specs.declared.modes.WholeMode.{WholeMode}
use Rattle.mode_parser.specs.Vectors.{MotionVector}
use Rattle.mode_parser.specs.declared.records.MbMode.{MbMode}
use Rattle.mode_parser.specs.declared.records.VectorMode.{VectorMode}
use Rattle.mode_parser.specs.declared.records.YMode.{YMode}
use Rattle.mode_parser.specs.declared.records.YMode.TheVariants.{Whole, B, Inter}
use Rattle.loop_filter.specs.Blocks.{Shape, chroma, filtered_by, luma}
use Rattle.loop_filter.specs.Frames.{block_at, columns_in, filtered_planes, plane_filtered, planes_filtered, row_filtered, rows_filtered, rows_in, strength_at}
use Rattle.pixel_planes.specs.Pictures.{PictureSamples}
use Rattle.pixel_planes.specs.PlaneSamples.{PlaneSamples}
use Rattle.pixel_planes.specs.Samples.{Samples, row_of, sample_at, uniform}
use Rattle.reference_frames.specs.InterPrediction.{block_vector, chroma_sample, kind_of, luma_sample}
use Rattle.reference_frames.specs.References.{picture_in}
use Rattle.reference_frames.specs.Restored.{Residual, restored}
use Rattle.reference_frames.specs.Unfiltered.{above, above_eight, above_row, above_side, block_row, corner, empty_planes, inter_macroblock, intra_macroblock, left, left_column, left_side, predicted_at, predicted_by, predicted_luma, predicted_macroblock, predicted_macroblocks, predicted_sub_block, predicted_sub_blocks, predicted_whole, referred_macroblock, right_row, sub_block_sample, sub_column, sub_row, unfiltered, whole_block_sample, with_block, with_block_rows, with_span}
use Rattle.reference_frames.specs.declared.references.References.{References}
use Rattle.stream_refusals.proofs.ByteLines.{AreBytesOf, AreSmall, filtered-bytes, small-at, small-drop, small-take}
use Rattle.stream_refusals.proofs.BytePredictions.{AreSmallInside, clamped-small, either-small, inter-small, side-small, small-map, sub-small, whole-small}

-- a plane of these sides, with a byte for each position
pub record IsPlaneOf (width height : ℕ) (p : Samples) : Type 0 where
  pub wide : p.width ≡ width
  pub high : p.height ≡ height
  pub long : length p.samples ≡ width * height
  pub small : AreSmall p.samples

-- the planes of so many macroblocks
pub record ArePlanesOf (columns rows : ℕ) (planes : PlaneSamples) : Type 0 where
  pub luma : IsPlaneOf (16 * columns) (16 * rows) planes.luma
  pub cb : IsPlaneOf (8 * columns) (8 * rows) planes.cb
  pub cr : IsPlaneOf (8 * columns) (8 * rows) planes.cr

uniform-plane : (width height : ℕ) → IsPlaneOf width height (uniform width height 0)
uniform-plane width height = record { wide = refl; high = refl; long = length-replicate (width * height) 0; small = Each1-replicate (λ s. s < 256) (width * height) 0 (omega arith) }

-- ---- blocks that are written

span-plane : (width height : ℕ) (p : Samples) (x y : ℕ) (span : List ℕ) → AreSmall span → IsPlaneOf width height p → IsPlaneOf width height (with_span p x y span)
span-plane width height p x y span small is =
    let row : List ℕ = put_chunk x (row_of p y) span in
    let part : AreSmall (row_of p y) = small-take (y * p.width + p.width - y * p.width) (drop (y * p.width) p.samples) (small-drop (y * p.width) p.samples is.small) in
    let written : AreSmall row = Each1-put_chunk (λ s. s < 256) x (row_of p y) span part small in
    record {
      wide = is.wide;
      high = is.high;
      long = length-put_chunk (y * p.width) p.samples row ∙ is.long;
      small = Each1-put_chunk (λ s. s < 256) (y * p.width) p.samples row is.small written;
    }

rows-plane : (width height : ℕ) (p : Samples) (x y side : ℕ) (sample : ℕ → ℕ → ℕ) (n : ℕ) → ((column row : ℕ) → sample column row < 256) → IsPlaneOf width height p → IsPlaneOf width height (with_block_rows p x y side sample n)
unfolding with_block_rows
rows-plane width height p x y side sample zero each is = is
rows-plane width height p x y side sample (suc n) each is =
    span-plane width height (with_block_rows p x y side sample n) x (y + n) (block_row side sample n) (small-map (λ column. sample column n) (range_with_len 0 side) (λ column. each column n)) (rows-plane width height p x y side sample n each is)

restored-small : (side first : ℕ) (residual : Residual) (sample : ℕ → ℕ → ℕ) → ((column row : ℕ) → sample column row < 256) → (column row : ℕ) → restored side first residual sample column row < 256
restored-small side first None sample each column row = each column row
restored-small side first (Some blocks) sample each column row = clamped-small _

block-plane : (width height : ℕ) (p : Samples) (x y side first : ℕ) (residual : Residual) (sample : ℕ → ℕ → ℕ) → ((column row : ℕ) → sample column row < 256) → IsPlaneOf width height p
    → IsPlaneOf width height (with_block p x y side (restored side first residual sample))
block-plane width height p x y side first residual sample each is = rows-plane width height p x y side (restored side first residual sample) side (restored-small side first residual sample each) is

-- ---- the samples around a block

at-small : (width height : ℕ) (p : Samples) → IsPlaneOf width height p → (x y : ℕ) → sample_at p x y < 256
at-small width height p is x y = small-at p.samples is.small (y * p.width + x)

above-small : (width height : ℕ) (p : Samples) → IsPlaneOf width height p → (x y : ℕ) → above p x y < 256
above-small width height p is x y = either-small (y == 0) 127 (sample_at p x (y - 1)) (omega arith) (at-small width height p is x (y - 1))

left-small : (width height : ℕ) (p : Samples) → IsPlaneOf width height p → (x y : ℕ) → left p x y < 256
left-small width height p is x y = either-small (x == 0) 129 (sample_at p (x - 1) y) (omega arith) (at-small width height p is (x - 1) y)

corner-small : (width height : ℕ) (p : Samples) → IsPlaneOf width height p → (x y : ℕ) → corner p x y < 256
corner-small width height p is x y = either-small (y == 0) 127 (left p x (y - 1)) (omega arith) (left-small width height p is x (y - 1))

above_row-small : (width height : ℕ) (p : Samples) → IsPlaneOf width height p → (x y n : ℕ) → AreSmall (above_row p x y n)
unfolding above_row
above_row-small width height p is x y n = small-map (λ k. above p (x + k) y) (range_with_len 0 n) (λ k. above-small width height p is (x + k) y)

left_column-small : (width height : ℕ) (p : Samples) → IsPlaneOf width height p → (x y n : ℕ) → AreSmall (left_column p x y n)
unfolding left_column
left_column-small width height p is x y n = small-map (λ k. left p x (y + k)) (range_with_len 0 n) (λ k. left-small width height p is x (y + k))

above_eight-small : (width height : ℕ) (p : Samples) → IsPlaneOf width height p → (mx my n : ℕ) → AreSmall (above_eight p mx my n)
unfolding above_eight
above_eight-small width height p is mx my n =
    small-map (λ k. above p (min (sub_column mx n + k) (p.width - 1)) (if nat_lt k 4 then sub_row my n else right_row my n)) (range_with_len 0 8) (λ k. above-small width height p is _ _)

sub_sample-small : (width height : ℕ) (p : Samples) → IsPlaneOf width height p → (mx my n : ℕ) (mode : SubMode) (column row : ℕ) → sub_block_sample p mx my n mode column row < 256
sub_sample-small width height p is mx my n mode column row =
    let x : ℕ = sub_column mx n in
    let y : ℕ = sub_row my n in
    sub-small mode (left_column p x y 4) (corner p x y) (above_eight p mx my n) (left_column-small width height p is x y 4) (corner-small width height p is x y) (above_eight-small width height p is mx my n) column row

whole_sample-small : (width height : ℕ) (p : Samples) → IsPlaneOf width height p → (x y side : ℕ) (mode : WholeMode) (column row : ℕ) → whole_block_sample p x y side mode column row < 256
whole_sample-small width height p is x y side mode column row =
    whole-small mode (above_side p x y side) (left_side p x y side) (corner p x y) (side-small (y == 0) (above_row p x y side) (above_row-small width height p is x y side)) (side-small (x == 0) (left_column p x y side) (left_column-small width height p is x y side)) column row

-- ---- macroblocks

sub_blocks-plane : (width height : ℕ) (p : Samples) (mx my : ℕ) (modes : List SubMode) (residual : Residual) (n : ℕ) → IsPlaneOf width height p → IsPlaneOf width height (predicted_sub_blocks p mx my modes residual n)
unfolding predicted_sub_blocks
sub_blocks-plane width height p mx my modes residual zero is = is
sub_blocks-plane width height p mx my modes residual (suc n) is =
    let before : Samples = predicted_sub_blocks p mx my modes residual n in
    let so : IsPlaneOf width height before = sub_blocks-plane width height p mx my modes residual n is in
    block-plane width height before (sub_column mx n) (sub_row my n) 4 n residual (sub_block_sample before mx my n (slice_index_or modes n Dc)) (sub_sample-small width height before so mx my n (slice_index_or modes n Dc)) so

whole-plane : (width height : ℕ) (p : Samples) (side mx my : ℕ) (mode : WholeMode) (residual : Residual) (first : ℕ) → IsPlaneOf width height p → IsPlaneOf width height (predicted_whole p side mx my mode residual first)
whole-plane width height p side mx my mode residual first is =
    block-plane width height p (side * mx) (side * my) side first residual (whole_block_sample p (side * mx) (side * my) side mode) (whole_sample-small width height p is (side * mx) (side * my) side mode) is

luma-plane : (width height : ℕ) (p : Samples) (mx my : ℕ) (mode : YMode) (modes : List SubMode) (residual : Residual) → IsPlaneOf width height p → IsPlaneOf width height (predicted_luma p mx my mode modes residual)
luma-plane width height p mx my (Whole mode) modes residual is = whole-plane width height p 16 mx my mode residual 0 is
luma-plane width height p mx my B modes residual is = sub_blocks-plane width height p mx my modes residual 16 is
luma-plane width height p mx my (Inter reference mode) modes residual is = is

intra-planes : (columns rows : ℕ) (planes : PlaneSamples) (mx my : ℕ) (mode : MbMode) (residual : Residual) → ArePlanesOf columns rows planes → ArePlanesOf columns rows (intra_macroblock planes mx my mode residual)
unfolding intra_macroblock
intra-planes columns rows planes mx my mode residual are = record {
  luma = luma-plane (16 * columns) (16 * rows) planes.luma mx my mode.y_mode mode.sub_modes residual are.luma;
  cb = whole-plane (8 * columns) (8 * rows) planes.cb 8 mx my mode.uv_mode residual 16 are.cb;
  cr = whole-plane (8 * columns) (8 * rows) planes.cr 8 mx my mode.uv_mode residual 20 are.cr;
}

inter-planes : (version : ℕ) (from : PictureSamples) (columns rows : ℕ) (planes : PlaneSamples) (mx my : ℕ) (mode : VectorMode) (vectors : List MotionVector) (residual : Residual) → ArePlanesOf columns rows planes
    → ArePlanesOf columns rows (inter_macroblock version from planes mx my mode vectors residual)
unfolding inter_macroblock
inter-planes version from columns rows planes mx my mode vectors residual are = record {
  luma = block-plane (16 * columns) (16 * rows) planes.luma (16 * mx) (16 * my) 16 0 residual (luma_sample (kind_of version) from.luma mx my (block_vector mode vectors)) (λ column row. inter-small _ _ _ _ _ _) are.luma;
  cb = block-plane (8 * columns) (8 * rows) planes.cb (8 * mx) (8 * my) 8 16 residual (chroma_sample version from.cb mx my (block_vector mode vectors)) (λ column row. inter-small _ _ _ _ _ _) are.cb;
  cr = block-plane (8 * columns) (8 * rows) planes.cr (8 * mx) (8 * my) 8 20 residual (chroma_sample version from.cr mx my (block_vector mode vectors)) (λ column row. inter-small _ _ _ _ _ _) are.cr;
}

referred-planes : (version : ℕ) (references : Option References) (reference : Reference) (vector_mode : VectorMode) (columns rows : ℕ) (planes : PlaneSamples) (mx my : ℕ) (mode : MbMode) (residual : Residual) → ArePlanesOf columns rows planes
    → ArePlanesOf columns rows (referred_macroblock version references reference vector_mode planes mx my mode residual)
referred-planes version None reference vector_mode columns rows planes mx my mode residual are = are
referred-planes version (Some references) reference vector_mode columns rows planes mx my mode residual are = inter-planes version (picture_in references reference) columns rows planes mx my vector_mode mode.vectors residual are

by-planes : (y_mode : YMode) (version : ℕ) (references : Option References) (columns rows : ℕ) (planes : PlaneSamples) (mx my : ℕ) (mode : MbMode) (residual : Residual) → ArePlanesOf columns rows planes
    → ArePlanesOf columns rows (predicted_by y_mode version references planes mx my mode residual)
by-planes (Whole whole) version references columns rows planes mx my mode residual are = intra-planes columns rows planes mx my mode residual are
by-planes B version references columns rows planes mx my mode residual are = intra-planes columns rows planes mx my mode residual are
by-planes (Inter reference vector_mode) version references columns rows planes mx my mode residual are = referred-planes version references reference vector_mode columns rows planes mx my mode residual are

at-planes : (version : ℕ) (references : Option References) (columns rows : ℕ) (planes : PlaneSamples) (across place : ℕ) (mode : Option MbMode) (residual : Residual) → ArePlanesOf columns rows planes
    → ArePlanesOf columns rows (predicted_at version references planes across place mode residual)
unfolding predicted_macroblock
at-planes version references columns rows planes across place None residual are = are
at-planes version references columns rows planes across place (Some mode) residual are = by-planes mode.y_mode version references columns rows planes (place % across) (place / across) mode residual are

macroblocks-planes : (version : ℕ) (references : Option References) (columns rows : ℕ) (planes : PlaneSamples) (across : ℕ) (modes : List MbMode) (residuals : ℕ → Residual) (n : ℕ) → ArePlanesOf columns rows planes
    → ArePlanesOf columns rows (predicted_macroblocks version references planes across modes residuals n)
unfolding predicted_macroblocks
macroblocks-planes version references columns rows planes across modes residuals zero are = are
macroblocks-planes version references columns rows planes across modes residuals (suc n) are =
    at-planes version references columns rows (predicted_macroblocks version references planes across modes residuals n) across n (slice_get modes n) (residuals n) (macroblocks-planes version references columns rows planes across modes residuals n are)

pub unfiltered-planes : (version : ℕ) (references : Option References) (columns rows : ℕ) (modes : List MbMode) (residuals : ℕ → Residual) → ArePlanesOf columns rows (unfiltered version references columns rows modes residuals)
unfiltered-planes version references columns rows modes residuals =
    macroblocks-planes version references columns rows (empty_planes columns rows) columns modes residuals (length modes)
    (record { luma = uniform-plane (16 * columns) (16 * rows); cb = uniform-plane (8 * columns) (8 * rows); cr = uniform-plane (8 * columns) (8 * rows) })

-- ---- the loop filter

row-bytes : (count : ℕ) (shape : Shape) (is_simple : Bool) (strength : ℕ → _) (columns my : ℕ) (samples : List ℕ) (n : ℕ) → AreBytesOf count samples → AreBytesOf count (row_filtered shape is_simple strength columns my samples n)
unfolding row_filtered
row-bytes count shape is_simple strength columns my samples zero are = are
row-bytes count shape is_simple strength columns my samples (suc n) are =
    filtered-bytes count shape is_simple (strength (my * columns + n)) (block_at shape.side columns n my) (row_filtered shape is_simple strength columns my samples n) (row-bytes count shape is_simple strength columns my samples n are)

all-bytes : (count : ℕ) (shape : Shape) (is_simple : Bool) (strength : ℕ → _) (columns : ℕ) (samples : List ℕ) (n : ℕ) → AreBytesOf count samples → AreBytesOf count (rows_filtered shape is_simple strength columns samples n)
unfolding rows_filtered
all-bytes count shape is_simple strength columns samples zero are = are
all-bytes count shape is_simple strength columns samples (suc n) are = row-bytes count shape is_simple strength columns n (rows_filtered shape is_simple strength columns samples n) columns (all-bytes count shape is_simple strength columns samples n are)

filtered-plane : (width height : ℕ) (shape : Shape) (is_simple : Bool) (strength : ℕ → _) (columns rows : ℕ) (p : Samples) → IsPlaneOf width height p → IsPlaneOf width height (plane_filtered shape is_simple strength columns rows p)
filtered-plane width height shape is_simple strength columns rows p is =
    let after : AreBytesOf (width * height) (rows_filtered shape is_simple strength columns p.samples rows) = all-bytes (width * height) shape is_simple strength columns p.samples rows (record { long = is.long; small = is.small }) in
    record { wide = is.wide; high = is.high; long = after.long; small = after.small }

either-plane : (width height : ℕ) (b : Bool) (p q : Samples) → IsPlaneOf width height p → IsPlaneOf width height q → IsPlaneOf width height (if b then p else q)
either-plane width height true p q first second = first
either-plane width height false p q first second = second

either-planes : (columns rows : ℕ) (b : Bool) (p q : PlaneSamples) → ArePlanesOf columns rows p → ArePlanesOf columns rows q → ArePlanesOf columns rows (if b then p else q)
either-planes columns rows true p q first second = first
either-planes columns rows false p q first second = second

pub filtered-are : (columns rows : ℕ) (header : Header) (records : List MbMode) (flags : List Bool) (planes : PlaneSamples) → ArePlanesOf columns rows planes → ArePlanesOf columns rows (filtered_planes header records flags planes)
unfolding filtered_planes
filtered-are columns rows header records flags planes are =
    let is_simple : Bool = header.filter.is_simple in
    let strength = strength_at header records flags in
    let across : ℕ = columns_in planes in
    let down : ℕ = rows_in planes in
    let after : PlaneSamples = planes_filtered is_simple strength across down planes in
    let so : ArePlanesOf columns rows after = record {
      luma = filtered-plane (16 * columns) (16 * rows) luma is_simple strength across down planes.luma are.luma;
      cb = either-plane (8 * columns) (8 * rows) is_simple planes.cb (plane_filtered chroma is_simple strength across down planes.cb) are.cb (filtered-plane (8 * columns) (8 * rows) chroma is_simple strength across down planes.cb are.cb);
      cr = either-plane (8 * columns) (8 * rows) is_simple planes.cr (plane_filtered chroma is_simple strength across down planes.cr) are.cr (filtered-plane (8 * columns) (8 * rows) chroma is_simple strength across down planes.cr are.cr);
    } in
    either-planes columns rows (header.filter.level == 0) planes after are so
