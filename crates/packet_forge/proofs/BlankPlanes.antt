-- The planes of a blank frame.
use Rattle.std.specs.Prelude.{Option, replicate}
use Rattle.std.proofs.Common.{◌≡◌, ℕ, suc, ◌+◌, ◌-◌, ◌*◌, ◌<◌, ◌≤◌, inl, inr, List, [], ◌++◌, Some, None, refl, ap, ◌∙◌, arith, eq-eqb, append-nil}
use Rattle.std.proofs.lemmas.Bool.{cases_eq, ne_eqb, cond-true, cond-false}
use Rattle.std.proofs.Math.Nat.{mul-le-mul_left}
use Rattle.intra_predict.specs.Means.{mean_of}
use Rattle.intra_predict.specs.declared.modes.WholeMode.TheVariants.{Dc}
use Rattle.intra_predict.specs.WholeSample.{whole_sample, inside}
use Rattle.pixel_planes.specs.Samples.{Samples}
use Rattle.reference_frames.specs.Unfiltered.{above, left, above_side, left_side, whole_block_sample, with_block, intra_macroblock, predicted_macroblock}
use Rattle.reference_frames.specs.declared.references.References.{References}
use Rattle.reference_frames.proofs.Flat.{above_row_is, left_column_is}
use Rattle.packet_forge.proofs.Targets.{IsFrame, IsBegun, begun_more}
use Rattle.packet_forge.proofs.Frames.{DoesOne}
use Rattle.packet_forge.proofs.BlankModes.{grey_mode}

abbrev pub grey_at : ℕ → ℕ → ℕ
grey_at i j = 128

-- the samples above and to the left of a macroblock
above_is : (side columns rows my mx : ℕ) (p : Samples) → 0 < side → mx < columns → my < rows → IsBegun grey_at side columns rows my mx p → (side * my ≡ 0 → ⊥) → side * suc mx ≤ side * columns → side * suc my ≤ side * rows → above_side p (side * mx) (side * my) side ≡ Some (replicate side 128)
above_is side columns rows my mx p some in_row in_frame begun under wide high =
    let each : (k : ℕ) → k < side → above p (side * mx + k) (side * my) ≡ 128 = λ k less.
    cond-false _ _ _ (ne_eqb (side * my) 0 under) ∙ begun.done (side * mx + k) (side * my - 1) (omega (arith, wide, less)) (omega (arith, high, under)) (inl (omega (arith, under))) in
    cond-false _ _ _ (ne_eqb (side * my) 0 under) ∙ ap Some (above_row_is p (side * mx) (side * my) side 128 each)

left_is : (side columns rows my mx : ℕ) (p : Samples) → 0 < side → mx < columns → my < rows → IsBegun grey_at side columns rows my mx p → (side * mx ≡ 0 → ⊥) → side * suc mx ≤ side * columns → side * suc my ≤ side * rows → left_side p (side * mx) (side * my) side ≡ Some (replicate side 128)
left_is side columns rows my mx p some in_row in_frame begun beside wide high =
    let each : (k : ℕ) → k < side → left p (side * mx) (side * my + k) ≡ 128 = λ k less.
    cond-false _ _ _ (ne_eqb (side * mx) 0 beside) ∙ begun.done (side * mx - 1) (side * my + k) (omega (arith, wide)) (omega (arith, high, less)) (inr (omega (arith, less), omega (arith, beside))) in
    cond-false _ _ _ (ne_eqb (side * mx) 0 beside) ∙ ap Some (left_column_is p (side * mx) (side * my) side 128 each)

-- the means of the sides that occur
record MeansGrey (side : ℕ) : Type 0 where
  one : mean_of (replicate side 128) ≡ 128
  two : mean_of (replicate side 128 ++ replicate side 128) ≡ 128

mean_none : mean_of [] ≡ 128
unfolding mean_of
mean_none = refl

means_8 : MeansGrey 8
unfolding mean_of
means_8 = record { one = refl; two = refl }

means_16 : MeansGrey 16
unfolding mean_of
means_16 = record { one = refl; two = refl }

one_and_none : (side : ℕ) → MeansGrey side → mean_of (replicate side 128 ++ []) ≡ 128
one_and_none side means = ap mean_of (append-nil (replicate side 128)) ∙ means.one

-- the samples that mode DC predicts from two such sides
between : (p : Samples) (x y side : ℕ) (upper beside : Option (List ℕ)) → above_side p x y side ≡ upper → left_side p x y side ≡ beside → mean_of (inside upper ++ inside beside) ≡ 128 → (column row : ℕ) → whole_block_sample p x y side Dc column row ≡ 128
unfolding whole_sample
between p x y side upper beside upper_is beside_is mean column row =
    ap (λ s. mean_of (inside s ++ inside (left_side p x y side))) upper_is ∙ ap (λ s. mean_of (inside upper ++ inside s)) beside_is ∙ mean

grey_block : (side columns rows my mx : ℕ) (p : Samples) → MeansGrey side → 0 < side → mx < columns → my < rows → side * suc mx ≤ side * columns → side * suc my ≤ side * rows → IsBegun grey_at side columns rows my mx p → (column row : ℕ) → whole_block_sample p (side * mx) (side * my) side Dc column row ≡ 128
grey_block side columns rows my mx p means some in_row in_frame wide high begun =
    let x = side * mx in
    let y = side * my in
    elim (cases_eq (side * mx) 0) [
      | inl edge ↦
          let beside : left_side p (side * mx) (side * my) side ≡ None = cond-true _ _ _ (eq-eqb (side * mx) 0 edge) in
          elim (cases_eq (side * my) 0) [
            | inl top ↦ between p x y side None None (cond-true _ _ _ (eq-eqb (side * my) 0 top)) beside mean_none
            | inr under ↦ between p x y side (Some (replicate side 128)) None (above_is side columns rows my mx p some in_row in_frame begun under wide high) beside (one_and_none side means)
          ]
      | inr inner ↦
          let beside = left_is side columns rows my mx p some in_row in_frame begun inner wide high in
          elim (cases_eq (side * my) 0) [
            | inl top ↦ between p x y side None (Some (replicate side 128)) (cond-true _ _ _ (eq-eqb (side * my) 0 top)) beside means.one
            | inr under ↦ between p x y side (Some (replicate side 128)) (Some (replicate side 128)) (above_is side columns rows my mx p some in_row in_frame begun under wide high) beside means.two
          ]
    ]

grey_step : (side columns rows my mx : ℕ) (p : Samples) → MeansGrey side → IsFrame side columns rows → mx < columns → my < rows → IsBegun grey_at side columns rows my mx p → IsBegun grey_at side columns rows my (suc mx) (with_block p (side * mx) (side * my) side (whole_block_sample p (side * mx) (side * my) side Dc))
grey_step side columns rows my mx p means frame in_row in_frame begun =
    let wide : side * suc mx ≤ side * columns = mul-le-mul_left side in_row in
    let high : side * suc my ≤ side * rows = mul-le-mul_left side in_frame in
    let value = grey_block side columns rows my mx p means frame.some in_row in_frame wide high begun in
    begun_more grey_at side columns rows my mx p (whole_block_sample p (side * mx) (side * my) side Dc) frame in_row in_frame (λ column row a b. value column row) begun

pub greys : (columns rows version : ℕ) (references : Option References) → IsFrame 16 columns rows → IsFrame 8 columns rows → DoesOne grey_at grey_at grey_at columns rows version references grey_mode
unfolding predicted_macroblock intra_macroblock
greys columns rows version references luma chroma = record {
  one = λ my mx planes in_row in_frame begun. record {
    in_luma = grey_step 16 columns rows my mx planes.luma means_16 luma in_row in_frame begun.in_luma;
    in_cb = grey_step 8 columns rows my mx planes.cb means_8 chroma in_row in_frame begun.in_cb;
    in_cr = grey_step 8 columns rows my mx planes.cr means_8 chroma in_row in_frame begun.in_cr;
  };
}
