-- One more macroblock, and the planes of a frame written back.
use Rattle.std.proofs.Common.{◌≡◌, ℕ, ◌+◌, ◌*◌, ◌<◌, ◌≤◌, Bool, false, List, length, Option, refl, sym, ap, ◌∙◌, arith, add-one, mul_comm}
use Rattle.std.specs.Simd.Lanes.{put_chunk}
use Rattle.std.proofs.lemmas.List.{take_all}
use Rattle.std.proofs.lemmas.Nat.{mul-le}
use Rattle.std.proofs.lemmas.Simd.{put_chunk_whole}
use Rattle.pixel_planes.specs.Samples.{Samples, IsWhole, PlaneValue, with_samples_written}
use Rattle.pixel_planes.specs.Layout.{rows_of, cropped, bordered_side, with_rows_written}
use Rattle.pixel_planes.specs.Pictures.{HasBlocks}
use Rattle.pixel_planes.proofs.BlockRows.{length-rows_of, rows_at_front}
use Rattle.pixel_planes.proofs.Written.{rows_written}
use Rattle.loop_filter.specs.Blocks.{Shape, filtered_by}
use Rattle.loop_filter.specs.Frames.{block_at, row_filtered}
use Rattle.loop_filter.specs.Macroblocks.{IsFrame, plane_in, row_of_all, with_row_filtered}
use Rattle.loop_filter.specs.declared.frames.Macroblocks.{Macroblocks}
use Rattle.loop_filter.specs.declared.strengths.Strength.{Strength}

pub row_more : (shape : Shape) (is_simple : Bool) (strength : ℕ → Option Strength) (columns my : ℕ) (samples : List ℕ) (mx : ℕ) → row_filtered shape is_simple strength columns my samples (mx + 1) ≡ filtered_by shape is_simple (strength (my * columns + mx)) (block_at shape.side columns mx my) (row_filtered shape is_simple strength columns my samples mx)
unfolding row_filtered
row_more shape is_simple strength columns my samples mx = rw add-one refl

-- the samples of a plane whose rows were filtered apart from each other
rows_are : (shape : Shape) (all : Macroblocks) (my : ℕ) (plane : PlaneValue) (stride : ℕ) (old new : List ℕ) → HasBlocks plane.shown shape.side all.columns all.rows → stride ≡ bordered_side plane.shown.width plane.border
    → cropped plane.shown.width plane.shown.height (bordered_side plane.shown.width plane.border) old ≡ plane.shown → plane_in shape all stride new ≡ row_of_all shape all my (plane_in shape all stride old) all.columns
    → rows_of new 0 (bordered_side plane.shown.width plane.border) plane.shown.width plane.shown.height ≡ row_of_all shape all my plane.shown.samples all.columns
rows_are shape all my plane stride old new blocks apart shown is =
    let before : plane_in shape all stride old ≡ plane.shown.samples = rw (apart, ← blocks.0, ← blocks.1) (ap (λ (p : Samples). p.samples) shown) in
    let after : rows_of new 0 stride (shape.side * all.columns) (shape.side * all.rows) ≡ row_of_all shape all my plane.shown.samples all.columns = is ∙ ap (λ s. row_of_all shape all my s all.columns) before in
    rw (← apart, blocks.0, blocks.1) after

-- a side of a plane of 1 to 1,024 blocks
side_is : (side count length : ℕ) → 0 < side → side ≤ 16 → 0 < count → count ≤ 1024 → length ≡ side * count → (0 < length) × (length ≤ 16384)
side_is side count length some small any few is = (
  omega (arith, is, mul-le 1 1 side count some any),
  omega (arith, is, mul-le side count 16 1024 small few),
)

-- its plane is whole
whole : (shape : Shape) (all : Macroblocks) (plane : PlaneValue) (old : List ℕ) → 0 < shape.side → shape.side ≤ 16 → IsFrame all → HasBlocks plane.shown shape.side all.columns all.rows
    → cropped plane.shown.width plane.shown.height (bordered_side plane.shown.width plane.border) old ≡ plane.shown → length old ≡ plane.shown.height * bordered_side plane.shown.width plane.border → IsWhole plane.shown
whole shape all plane old some small frame blocks shown count =
    let wide = side_is shape.side all.columns plane.shown.width some small frame.some.0 frame.small.0 blocks.0 in
    let high = side_is shape.side all.rows plane.shown.height some small frame.some.1 frame.small.1 blocks.1 in
    let long : length plane.shown.samples ≡ plane.shown.height * plane.shown.width =
    ap (λ (p : Samples). length p.samples) (sym shown) ∙ length-rows_of old 0 (bordered_side plane.shown.width plane.border) plane.shown.width plane.shown.height (omega arith) (omega (arith, count)) in
    (wide.0, wide.1, high.0, high.1, long ∙ mul_comm plane.shown.height plane.shown.width)

-- a plane whose rows were written apart from each other, and one whose samples were written one directly after the other
pub apart_written : (shape : Shape) (all : Macroblocks) (my : ℕ) (plane : PlaneValue) (stride : ℕ) (old new : List ℕ) → 0 < shape.side → shape.side ≤ 16 → IsFrame all → HasBlocks plane.shown shape.side all.columns all.rows → stride ≡ bordered_side plane.shown.width plane.border
    → cropped plane.shown.width plane.shown.height (bordered_side plane.shown.width plane.border) old ≡ plane.shown → length old ≡ plane.shown.height * bordered_side plane.shown.width plane.border → length new ≡ length old
    → plane_in shape all stride new ≡ row_of_all shape all my (plane_in shape all stride old) all.columns → with_rows_written plane new ≡ with_row_filtered shape all my plane
apart_written shape all my plane stride old new some small frame blocks apart shown count long is =
    rows_written plane new (whole shape all plane old some small frame blocks shown count) (long ∙ count)
    ∙ ap (λ (s : List ℕ). record plane { shown = record plane.shown { samples = s }; is_current = false }) (rows_are shape all my plane stride old new blocks apart shown is)

-- all samples of a plane, in rows one directly after the other
flat : (shape : Shape) (all : Macroblocks) (p : Samples) (items : List ℕ) → HasBlocks p shape.side all.columns all.rows → length items ≡ p.width * p.height → plane_in shape all (shape.side * all.columns) items ≡ items
flat shape all p items blocks whole =
    let count : length items ≡ shape.side * all.rows * (shape.side * all.columns) = whole ∙ rw (blocks.0, blocks.1) (mul_comm (shape.side * all.columns) (shape.side * all.rows)) in
    rows_at_front items (shape.side * all.columns) (shape.side * all.rows) ∙ take_all (shape.side * all.rows * (shape.side * all.columns)) items (omega (arith, count))

pub samples_written : (shape : Shape) (all : Macroblocks) (my : ℕ) (plane : PlaneValue) (width : ℕ) (old new : List ℕ) → HasBlocks plane.shown shape.side all.columns all.rows → width ≡ shape.side * all.columns
    → old ≡ plane.shown.samples → length old ≡ plane.shown.width * plane.shown.height → length new ≡ length old → plane_in shape all width new ≡ row_of_all shape all my (plane_in shape all width old) all.columns → with_samples_written plane new ≡ with_row_filtered shape all my plane
samples_written shape all my plane width old new blocks across shown whole long is =
    let is' : plane_in shape all (shape.side * all.columns) new ≡ row_of_all shape all my (plane_in shape all (shape.side * all.columns) old) all.columns = rw across at is in
    let after : new ≡ row_of_all shape all my plane.shown.samples all.columns =
    sym (flat shape all plane.shown new blocks (long ∙ whole)) ∙ is' ∙ ap (λ s. row_of_all shape all my s all.columns) (flat shape all plane.shown old blocks whole ∙ shown) in
    let samples : put_chunk 0 plane.shown.samples new ≡ row_of_all shape all my plane.shown.samples all.columns = put_chunk_whole plane.shown.samples new (ap (λ s. length s) (sym shown) ∙ sym long) ∙ after in
    ap (λ (s : List ℕ). record plane { shown = record plane.shown { samples = s }; is_current = false }) samples
