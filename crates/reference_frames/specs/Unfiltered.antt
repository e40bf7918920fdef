-- The unfiltered picture of a frame: each macroblock is predicted by its record, from the samples around it or from a reference, and its residual is added, in raster order (RFC 6386, sections 12, 14.5 and 18).
use Rattle.std.specs.Prelude.{◌≡◌, ℕ, zero, suc, ◌+◌, ◌-◌, ◌*◌, ◌/◌, ◌%◌, ◌≤◌, ◌==◌, nat_lt, min, if◌then◌else◌, List, map, length, slice_get, slice_index_or, Option, Some, None}
use Rattle.std.specs.List.{range_with_len}
use Rattle.std.specs.Simd.Lanes.{put_chunk}
use Rattle.intra_predict.specs.declared.modes.SubMode.{SubMode}
use Rattle.intra_predict.specs.declared.modes.SubMode.TheVariants.{Dc}
use Rattle.intra_predict.specs.declared.modes.WholeMode.{WholeMode}
use Rattle.intra_predict.specs.Edges.{above_frame, left_of_frame}
use Rattle.intra_predict.specs.SubSample.{sub_sample}
use Rattle.intra_predict.specs.WholeSample.{whole_sample}
use Rattle.pixel_planes.specs.Samples.{Samples, uniform, sample_at, row_of, with_row}
use Rattle.pixel_planes.specs.Pictures.{PictureSamples}
use Rattle.pixel_planes.specs.PlaneSamples.{PlaneSamples}
use Rattle.mode_parser.specs.declared.records.MbMode.{MbMode}
use Rattle.mode_parser.specs.declared.records.YMode.{YMode}
use Rattle.mode_parser.specs.declared.records.YMode.TheVariants.{Whole, B, Inter}
use Rattle.mode_parser.specs.declared.records.VectorMode.{VectorMode}
use Rattle.mode_parser.specs.Vectors.{MotionVector}
use Rattle.frame_header.specs.declared.references.Reference.{Reference}
use Rattle.reference_frames.specs.InterPrediction.{kind_of, block_vector, luma_sample, chroma_sample}
use Rattle.reference_frames.specs.References.{picture_in}
use Rattle.reference_frames.specs.Restored.{Residual, restored}
use Rattle.reference_frames.specs.declared.references.References.{References}

-- a square of this side, with its first sample in column x of row y, lies in the plane, which has no side above 16,384
abbrev pub HoldsSquare : Samples → ℕ → ℕ → ℕ → Type 0
HoldsSquare p x y side = (x + side ≤ p.width) × (y + side ≤ p.height) × (p.width ≤ 16384) × (p.height ≤ 16384)

-- the plane keeps its sides
abbrev pub SameSides : Samples → Samples → Type 0
SameSides old new = (new.width ≡ old.width) × (new.height ≡ old.height)

-- each plane keeps its sides
abbrev pub SameShape : PlaneSamples → PlaneSamples → Type 0
SameShape old new = SameSides old.luma new.luma × SameSides old.cb new.cb × SameSides old.cr new.cr

-- the macroblock in column mx of row my lies in the planes
abbrev pub HoldsMacroblock : PlaneSamples → ℕ → ℕ → Type 0
HoldsMacroblock planes mx my =
    HoldsSquare planes.luma (16 * mx) (16 * my) 16 × HoldsSquare planes.cb (8 * mx) (8 * my) 8 × HoldsSquare planes.cr (8 * mx) (8 * my) 8

-- the plane has this many blocks of this side each way, or more, and no side above 16,384
abbrev pub HasRoomFor : Samples → ℕ → ℕ → ℕ → Type 0
HasRoomFor p side columns rows = (side * columns ≤ p.width) × (side * rows ≤ p.height) × (p.width ≤ 16384) × (p.height ≤ 16384)

-- the planes have this many macroblocks each way, or more
abbrev pub HaveRoomFor : PlaneSamples → ℕ → ℕ → Type 0
HaveRoomFor planes columns rows = HasRoomFor planes.luma 16 columns rows × HasRoomFor planes.cb 8 columns rows × HasRoomFor planes.cr 8 columns rows

-- the sample above column x of row y, 127 above the frame (section 12.2)
abbrev pub above : Samples → ℕ → ℕ → ℕ
above p x y = if y == 0 then above_frame else sample_at p x (y - 1)

-- the sample to the left of column x of row y, 129 left of the frame (section 12.2)
abbrev pub left : Samples → ℕ → ℕ → ℕ
left p x y = if x == 0 then left_of_frame else sample_at p (x - 1) y

-- the corner between the two: 127 above the frame, and 129 to its left below that
abbrev pub corner : Samples → ℕ → ℕ → ℕ
corner p x y = if y == 0 then above_frame else left p x (y - 1)

-- n samples above a block at (x, y), from the left
unfoldable pub above_row : Samples → ℕ → ℕ → ℕ → List ℕ
above_row p x y n = map (λ k. above p (x + k) y) (range_with_len 0 n)

-- n samples to the left of a block at (x, y), from the top
unfoldable pub left_column : Samples → ℕ → ℕ → ℕ → List ℕ
left_column p x y n = map (λ k. left p x (y + k)) (range_with_len 0 n)

-- the n samples above or to the left of a block, if they are inside the frame
abbrev pub above_side : Samples → ℕ → ℕ → ℕ → Option (List ℕ)
above_side p x y n = if y == 0 then None else Some (above_row p x y n)

abbrev pub left_side : Samples → ℕ → ℕ → ℕ → Option (List ℕ)
left_side p x y n = if x == 0 then None else Some (left_column p x y n)

-- the first column and the first row of sub block n of the macroblock in column mx of row my
abbrev pub sub_column : ℕ → ℕ → ℕ
sub_column mx n = 16 * mx + 4 * (n % 4)

abbrev pub sub_row : ℕ → ℕ → ℕ
sub_row my n = 16 * my + 4 * (n / 4)

-- the row below the four samples above and to the right of a sub block: in a macroblock's last column, its first row (section 12.3)
abbrev pub right_row : ℕ → ℕ → ℕ
right_row my n = if n % 4 == 3 then 16 * my else sub_row my n

-- the eight samples above a sub block; past the last column of the plane, that column repeats
unfoldable pub above_eight : Samples → ℕ → ℕ → ℕ → List ℕ
above_eight p mx my n =
    map (λ k. above p (min (sub_column mx n + k) (p.width - 1)) (if nat_lt k 4 then sub_row my n else right_row my n)) (range_with_len 0 8)

-- the sample that a mode predicts in each column and row of a sub block of 4 by 4 samples (section 12.3)
abbrev pub sub_block_sample : Samples → ℕ → ℕ → ℕ → SubMode → ℕ → ℕ → ℕ
sub_block_sample p mx my n mode =
    let x = sub_column mx n in
    let y = sub_row my n in
    sub_sample mode (left_column p x y 4) (corner p x y) (above_eight p mx my n)

-- the sample that a mode predicts in each column and row of a whole block of this side (section 12.2)
abbrev pub whole_block_sample : Samples → ℕ → ℕ → ℕ → WholeMode → ℕ → ℕ → ℕ
whole_block_sample p x y side mode = whole_sample mode (above_side p x y side) (left_side p x y side) (corner p x y)

-- the plane with these samples written starting at column x of row y
abbrev pub with_span : Samples → ℕ → ℕ → List ℕ → Samples
with_span p x y span = with_row p y (put_chunk x (row_of p y) span)

-- a row of a block whose samples are given by column and row
abbrev pub block_row : ℕ → (ℕ → ℕ → ℕ) → ℕ → List ℕ
block_row side sample row = map (λ column. sample column row) (range_with_len 0 side)

-- the plane with the first n rows of a block written
unfoldable pub with_block_rows : Samples → ℕ → ℕ → ℕ → (ℕ → ℕ → ℕ) → ℕ → Samples
with_block_rows p x y side sample zero = p
with_block_rows p x y side sample (suc n) = with_span (with_block_rows p x y side sample n) x (y + n) (block_row side sample n)

-- the plane with a block of these samples written at (x, y)
abbrev pub with_block : Samples → ℕ → ℕ → ℕ → (ℕ → ℕ → ℕ) → Samples
with_block p x y side sample = with_block_rows p x y side sample side

-- a plane after the prediction of sub block n of a macroblock, and its residual
abbrev pub predicted_sub_block : Samples → ℕ → ℕ → ℕ → SubMode → Residual → Samples
predicted_sub_block p mx my n mode residual = with_block p (sub_column mx n) (sub_row my n) 4 (restored 4 n residual (sub_block_sample p mx my n mode))

-- the luma plane after the first n of a macroblock's 16 sub blocks, in raster order, each by the mode at its index, from the samples there are by then
unfoldable pub predicted_sub_blocks : Samples → ℕ → ℕ → List SubMode → Residual → ℕ → Samples
predicted_sub_blocks p mx my modes residual zero = p
predicted_sub_blocks p mx my modes residual (suc n) = predicted_sub_block (predicted_sub_blocks p mx my modes residual n) mx my n (slice_index_or modes n Dc) residual

-- a plane after the prediction of a macroblock's block of this side, and its residual, whose blocks are numbered starting at `first`
abbrev pub predicted_whole : Samples → ℕ → ℕ → ℕ → WholeMode → Residual → ℕ → Samples
predicted_whole p side mx my mode residual first = with_block p (side * mx) (side * my) side (restored side first residual (whole_block_sample p (side * mx) (side * my) side mode))

-- the luma plane after a macroblock of this mode: one block of 16 by 16 samples, or in mode B its sub blocks by their own modes
abbrev pub predicted_luma : Samples → ℕ → ℕ → YMode → List SubMode → Residual → Samples
predicted_luma p mx my (Whole mode) modes residual = predicted_whole p 16 mx my mode residual 0
predicted_luma p mx my B modes residual = predicted_sub_blocks p mx my modes residual 16
predicted_luma p mx my (Inter reference mode) modes residual = p

-- the planes after an intra macroblock in column mx of row my, by its record and its residual
unfoldable pub intra_macroblock : PlaneSamples → ℕ → ℕ → MbMode → Residual → PlaneSamples
intra_macroblock planes mx my mode residual = record {
  luma = predicted_luma planes.luma mx my mode.y_mode mode.sub_modes residual;
  cb = predicted_whole planes.cb 8 mx my mode.uv_mode residual 16;
  cr = predicted_whole planes.cr 8 mx my mode.uv_mode residual 20;
}

-- the planes after such a macroblock that a frame of this version predicts from a picture, by its vectors
unfoldable pub inter_macroblock : ℕ → PictureSamples → PlaneSamples → ℕ → ℕ → VectorMode → List MotionVector → Residual → PlaneSamples
inter_macroblock version from planes mx my mode vectors residual = record {
  luma = with_block planes.luma (16 * mx) (16 * my) 16 (restored 16 0 residual (luma_sample (kind_of version) from.luma mx my (block_vector mode vectors)));
  cb = with_block planes.cb (8 * mx) (8 * my) 8 (restored 8 16 residual (chroma_sample version from.cb mx my (block_vector mode vectors)));
  cr = with_block planes.cr (8 * mx) (8 * my) 8 (restored 8 20 residual (chroma_sample version from.cr mx my (block_vector mode vectors)));
}

-- a key frame has no references, and none of its macroblocks asks for one
abbrev pub referred_macroblock : ℕ → Option References → Reference → VectorMode → PlaneSamples → ℕ → ℕ → MbMode → Residual → PlaneSamples
referred_macroblock version None reference vector_mode planes mx my mode residual = planes
referred_macroblock version (Some references) reference vector_mode planes mx my mode residual =
    inter_macroblock version (picture_in references reference) planes mx my vector_mode mode.vectors residual

-- the planes after the macroblock in column mx of row my of a frame of this version and with these references
abbrev pub predicted_by : YMode → ℕ → Option References → PlaneSamples → ℕ → ℕ → MbMode → Residual → PlaneSamples
predicted_by (Whole whole) version references planes mx my mode residual = intra_macroblock planes mx my mode residual
predicted_by B version references planes mx my mode residual = intra_macroblock planes mx my mode residual
predicted_by (Inter reference vector_mode) version references planes mx my mode residual = referred_macroblock version references reference vector_mode planes mx my mode residual

unfoldable pub predicted_macroblock : ℕ → Option References → PlaneSamples → ℕ → ℕ → MbMode → Residual → PlaneSamples
predicted_macroblock version references planes mx my mode residual = predicted_by mode.y_mode version references planes mx my mode residual

-- the planes after the macroblock at this index of a frame of so many columns, if it has a record
abbrev pub predicted_at : ℕ → Option References → PlaneSamples → ℕ → ℕ → Option MbMode → Residual → PlaneSamples
predicted_at version references planes columns place None residual = planes
predicted_at version references planes columns place (Some mode) residual = predicted_macroblock version references planes (place % columns) (place / columns) mode residual

-- the planes after the first n macroblocks, in raster order
unfoldable pub predicted_macroblocks : ℕ → Option References → PlaneSamples → ℕ → List MbMode → (ℕ → Residual) → ℕ → PlaneSamples
predicted_macroblocks version references planes columns modes residuals zero = planes
predicted_macroblocks version references planes columns modes residuals (suc n) = predicted_at version references (predicted_macroblocks version references planes columns modes residuals n) columns n (slice_get modes n) (residuals n)

-- the planes of a frame of this many macroblocks before any is predicted
abbrev pub empty_planes : ℕ → ℕ → PlaneSamples
empty_planes columns rows = record {
  luma = uniform (16 * columns) (16 * rows) 0;
  cb = uniform (8 * columns) (8 * rows) 0;
  cr = uniform (8 * columns) (8 * rows) 0;
}

-- the unfiltered planes of a frame of this version, with these references and this many macroblocks, by their records and the residual at each index
abbrev pub unfiltered : ℕ → Option References → ℕ → ℕ → List MbMode → (ℕ → Residual) → PlaneSamples
unfiltered version references columns rows modes residuals = predicted_macroblocks version references (empty_planes columns rows) columns modes residuals (length modes)
