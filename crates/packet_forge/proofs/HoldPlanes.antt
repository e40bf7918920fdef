-- The planes of a hold frame.
use Rattle.std.specs.Prelude.{ℤ, pos, ◌+ℤ◌}
use Rattle.std.proofs.Common.{◌≡◌, ℕ, suc, ◌+◌, ◌*◌, ◌<◌, ◌≤◌, Some, refl, ap, ◌∙◌, add-zero, arith}
use Rattle.std.proofs.Math.Nat.{mul-le-mul_left}
use Rattle.inter_predict.specs.InterSample.{inter_sample}
use Rattle.inter_predict.specs.declared.kinds.Kind.TheVariants.{SixTap}
use Rattle.inter_predict.proofs.FilterLaws.{copies_whole}
use Rattle.pixel_planes.specs.Samples.{Samples, sample_at}
use Rattle.pixel_planes.specs.ReferenceSamples.{clamped_coordinate, reference_sample}
use Rattle.pixel_planes.specs.Pictures.{PictureSamples}
use Rattle.mode_parser.specs.ChromaVectors.{group_vector}
use Rattle.mode_parser.specs.Records.{no_vectors}
use Rattle.mode_parser.specs.Vectors.{zero_vector}
use Rattle.mode_parser.specs.declared.records.VectorMode.TheVariants.{Zero}
use Rattle.reference_frames.specs.InterPrediction.{block_vector, luma_sample, chroma_sample}
use Rattle.reference_frames.specs.Unfiltered.{inter_macroblock, predicted_macroblock}
use Rattle.reference_frames.specs.declared.references.References.{References}
use Rattle.packet_forge.specs.Laws.{AreBytes}
use Rattle.packet_forge.proofs.Targets.{IsFrame, begun_more}
use Rattle.packet_forge.proofs.Frames.{DoesOne}
use Rattle.packet_forge.proofs.HoldModes.{hold_mode}

-- a coordinate inside a width or height
held_inside : (side place : ℕ) → place < side → clamped_coordinate side (pos place) ≡ place
held_inside side place lt = omega arith

reference_inside : (p : Samples) (x y : ℕ) → x < p.width → y < p.height → reference_sample p (pos x) (pos y) ≡ sample_at p x y
unfolding reference_sample
reference_inside p x y a b = rw (held_inside p.width x a, held_inside p.height y b) refl

reference_byte : (p : Samples) → AreBytes p → (column row : ℤ) → reference_sample p column row < 256
unfolding reference_sample
reference_byte p bytes column row = bytes (clamped_coordinate p.height row * p.width + clamped_coordinate p.width column)

-- a zero vector takes the sample as it is
still_sample : (p : Samples) (x y : ℕ) → AreBytes p → x < p.width → y < p.height → inter_sample SixTap p (pos x) (pos y) (pos 0) (pos 0) ≡ sample_at p x y
still_sample p x y bytes a b =
    let moved : inter_sample SixTap p (pos x) (pos y) (pos 0) (pos 0) ≡ reference_sample p (pos x +ℤ pos 0) (pos y +ℤ pos 0) = copies_whole SixTap p (pos x) (pos y) (pos 0) (pos 0) (reference_byte p bytes) in
    let across : pos x +ℤ pos 0 ≡ pos x = ap pos (add-zero x) in
    let down : pos y +ℤ pos 0 ≡ pos y = ap pos (add-zero y) in
    moved ∙ rw (across, down) (reference_inside p x y a b)

vectors_still : (n : ℕ) → block_vector Zero no_vectors n ≡ zero_vector
vectors_still n = refl

luma_still : (p : Samples) (mx my column row : ℕ) → AreBytes p → 16 * mx + column < p.width → 16 * my + row < p.height → luma_sample SixTap p mx my (block_vector Zero no_vectors) column row ≡ sample_at p (16 * mx + column) (16 * my + row)
luma_still p mx my column row bytes a b = still_sample p (16 * mx + column) (16 * my + row) bytes a b

chroma_still : (p : Samples) (mx my column row : ℕ) → AreBytes p → 8 * mx + column < p.width → 8 * my + row < p.height → chroma_sample 0 p mx my (block_vector Zero no_vectors) column row ≡ sample_at p (8 * mx + column) (8 * my + row)
unfolding group_vector
chroma_still p mx my column row bytes a b = still_sample p (8 * mx + column) (8 * my + row) bytes a b

-- the samples of all planes are bytes, and the planes have this many macroblocks
pub record IsHeld (p : PictureSamples) (columns rows : ℕ) : Type 0 where
  pub luma : AreBytes p.luma
  pub cb : AreBytes p.cb
  pub cr : AreBytes p.cr
  pub luma_sides : (p.luma.width ≡ 16 * columns) × (p.luma.height ≡ 16 * rows)
  pub cb_sides : (p.cb.width ≡ 8 * columns) × (p.cb.height ≡ 8 * rows)
  pub cr_sides : (p.cr.width ≡ 8 * columns) × (p.cr.height ≡ 8 * rows)

pub holds : (columns rows : ℕ) (references : References) → IsFrame 16 columns rows → IsFrame 8 columns rows → IsHeld references.last columns rows → DoesOne (sample_at references.last.luma) (sample_at references.last.cb) (sample_at references.last.cr) columns rows 0 (Some references) hold_mode
unfolding predicted_macroblock inter_macroblock
holds columns rows references luma chroma held = record {
  one = λ my mx planes in_row in_frame begun.
      let last = references.last in
      let wide : 16 * suc mx ≤ 16 * columns = mul-le-mul_left 16 in_row in
      let high : 16 * suc my ≤ 16 * rows = mul-le-mul_left 16 in_frame in
      record {
        in_luma = begun_more (sample_at references.last.luma) 16 columns rows my mx planes.luma (luma_sample SixTap references.last.luma mx my (block_vector Zero no_vectors)) luma in_row in_frame (λ column row a b. luma_still references.last.luma mx my column row held.luma (omega (arith, held.luma_sides.0, wide, a)) (omega (arith, held.luma_sides.1, high, b))) begun.in_luma;
        in_cb = begun_more (sample_at references.last.cb) 8 columns rows my mx planes.cb (chroma_sample 0 references.last.cb mx my (block_vector Zero no_vectors)) chroma in_row in_frame (λ column row a b. chroma_still references.last.cb mx my column row held.cb (omega (arith, held.cb_sides.0, wide, a)) (omega (arith, held.cb_sides.1, high, b))) begun.in_cb;
        in_cr = begun_more (sample_at references.last.cr) 8 columns rows my mx planes.cr (chroma_sample 0 references.last.cr mx my (block_vector Zero no_vectors)) chroma in_row in_frame (λ column row a b. chroma_still references.last.cr mx my column row held.cr (omega (arith, held.cr_sides.0, wide, a)) (omega (arith, held.cr_sides.1, high, b))) begun.in_cr;
      };
}
