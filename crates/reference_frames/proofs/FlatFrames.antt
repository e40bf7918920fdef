-- The planes of a blank picture, sample by sample.
use Rattle.std.specs.Prelude.{replicate, slice_get, slice_index_or, Option, Some, None}
use Rattle.std.proofs.Common.{◌≡◌, ℕ, zero, suc, ◌+◌, ◌-◌, ◌*◌, ◌/◌, ◌%◌, ◌<◌, ◌≤◌, ◌⊎◌, inl, inr, List, [], ◌++◌, true, length, get_or, take, refl, ap, sym, ◌∙◌, add-zero, zero-mul, arith, eq-eqb}
use Rattle.std.proofs.lemmas.Bool.{cases_lt, cases_eq, ne_eqb, cond-true, cond-false}
use Rattle.std.proofs.lemmas.Bool.Decides.{nat_tests}
use Rattle.std.proofs.lemmas.List.{length-replicate, get_or-replicate}
use Rattle.std.proofs.lemmas.Option.{slice_get-get_or}
use Rattle.intra_predict.specs.Means.{mean_of}
use Rattle.intra_predict.specs.declared.modes.SubMode.{SubMode}
use Rattle.intra_predict.specs.declared.modes.SubMode.TheVariants.{Dc}
use Rattle.intra_predict.specs.declared.modes.WholeMode.TheVariants.{Dc as WholeDc}
use Rattle.intra_predict.specs.SubSample.{sub_sample}
use Rattle.intra_predict.specs.WholeSample.{whole_sample, inside}
use Rattle.pixel_planes.specs.Samples.{Samples, uniform}
use Rattle.pixel_planes.specs.PlaneSamples.{PlaneSamples}
use Rattle.pixel_planes.proofs.Rows.{row_fits}
use Rattle.mode_parser.specs.declared.records.MbMode.{MbMode}
use Rattle.mode_parser.specs.declared.records.YMode.TheVariants.{B}
use Rattle.mode_parser.specs.Vectors.{zero_vector}
use Rattle.frame_header.specs.declared.header.Header.{Header}
use Rattle.reference_frames.specs.Restored.{Residual}
use Rattle.reference_frames.specs.FrameTokens.{TokenState, residual_at}
use Rattle.reference_frames.specs.Unfiltered.{above, left, left_column, above_eight, above_side, left_side, sub_column, sub_row, sub_block_sample, whole_block_sample, with_block, predicted_sub_blocks, predicted_luma, predicted_whole, intra_macroblock, predicted_macroblock, predicted_macroblocks, empty_planes}
use Rattle.reference_frames.specs.UnfilteredLaws.{luma_of_row, IsBlank, AreFlat}
use Rattle.reference_frames.specs.declared.references.References.{References}
use Rattle.reference_frames.proofs.MacroblockOrder.{predicted_more}
use Rattle.reference_frames.proofs.Flat.{IsPlane, IsPlane-with_block_rows, IsDone, IsDone-less, block_kept, block_more, above_row_is, left_column_is, above_eight_is, above_edge, left_edge, above_done, left_done}

-- ---- the values

luma_high : (y : ℕ) → y < 4 → luma_of_row y ≡ 128
luma_high y lt = grind (arith, nat_tests)

luma_low : (y : ℕ) → 4 ≤ y → luma_of_row y ≡ 129
luma_low y le = grind (arith, nat_tests)

-- the rows of a sub block have one value
luma_same : (y j : ℕ) → (y ≡ 0) ⊎ (4 ≤ y) → y ≤ j → j < y + 4 → luma_of_row j ≡ luma_of_row y
luma_same y j aligned from to =
    elim aligned [
      | inl top ↦ luma_high j (omega arith) ∙ sym (luma_high y (omega arith))
      | inr below ↦ luma_low j (omega arith) ∙ sym (luma_low y below)
    ]

-- round a sub block each sample above is one value and each to the left another, and their mean is the value of the block's rows
record IsRound (p : Samples) (x y : ℕ) : Type 0 where
  pub top : ℕ
  pub side : ℕ
  pub above_is : (k : ℕ) → k < 4 → above p (x + k) y ≡ top
  pub left_is : (k : ℕ) → k < 4 → left p x (y + k) ≡ side
  pub mean_is : mean_of (replicate 4 top ++ replicate 4 side) ≡ luma_of_row y

-- the means of the values that occur
mean_127_129 : mean_of (replicate 4 127 ++ replicate 4 129) ≡ 128
unfolding mean_of
mean_127_129 = refl

mean_127_128 : mean_of (replicate 4 127 ++ replicate 4 128) ≡ 128
unfolding mean_of
mean_127_128 = refl

mean_128_129 : mean_of (replicate 4 128 ++ replicate 4 129) ≡ 129
unfolding mean_of
mean_128_129 = refl

mean_129_129 : mean_of (replicate 4 129 ++ replicate 4 129) ≡ 129
unfolding mean_of
mean_129_129 = refl

-- the sample of mode DC in such a sub block
dc_is : (p : Samples) (mx my n : ℕ) → sub_column mx n + 4 ≤ p.width → IsRound p (sub_column mx n) (sub_row my n) → (column row : ℕ) → sub_block_sample p mx my n Dc column row ≡ luma_of_row (sub_row my n)
unfolding sub_sample
dc_is p mx my n wide round column row =
    let upper : take 4 (above_eight p mx my n) ≡ replicate 4 round.top = above_eight_is p mx my n round.top wide round.above_is in
    let beside : left_column p (sub_column mx n) (sub_row my n) 4 ≡ replicate 4 round.side = left_column_is p (sub_column mx n) (sub_row my n) 4 round.side round.left_is in
    ap (λ xs. mean_of (xs ++ left_column p (sub_column mx n) (sub_row my n) 4)) upper ∙ ap (λ xs. mean_of (replicate 4 round.top ++ xs)) beside ∙ round.mean_is

-- a sub block in the first row
dc_top : (w h : ℕ) (p : Samples) (x y : ℕ) → IsDone luma_of_row w h x (y + 4) p → x + 4 ≤ w → y + 4 ≤ h → y ≡ 0 → IsRound p x y
dc_top w h p x y before wide high top =
    let value : luma_of_row y ≡ 128 = luma_high y (omega arith) in
    let upper : (k : ℕ) → k < 4 → above p (x + k) y ≡ 127 = λ k less. above_edge p (x + k) y top in
    elim (cases_eq x 0) [
      | inl edge ↦ record { top = 127; side = 129; above_is = upper; left_is = λ k less. left_edge p x (y + k) edge; mean_is = mean_127_129 ∙ sym value }
      | inr beside ↦ record {
        top = 127;
        side = 128;
        above_is = upper;
        left_is = λ k less. left_done luma_of_row w h p x y 4 k 128 before (omega arith) high beside (luma_high (y + k) (omega arith)) less;
        mean_is = mean_127_128 ∙ sym value;
      }
    ]

-- the samples to the left of a sub block below the first row
left_below : (w h : ℕ) (p : Samples) (x y : ℕ) → IsDone luma_of_row w h x (y + 4) p → x + 4 ≤ w → y + 4 ≤ h → 4 ≤ y → (k : ℕ) → k < 4 → left p x (y + k) ≡ 129
left_below w h p x y before wide high below k less =
    elim (cases_eq x 0) [
      | inl edge ↦ left_edge p x (y + k) edge
      | inr beside ↦ left_done luma_of_row w h p x y 4 k 129 before (omega arith) high beside (luma_low (y + k) (omega arith)) less
    ]

-- a sub block below the first row
dc_below : (w h : ℕ) (p : Samples) (x y : ℕ) → IsDone luma_of_row w h (x + 4) y p → IsDone luma_of_row w h x (y + 4) p → x + 4 ≤ w → y + 4 ≤ h → 4 ≤ y → IsRound p x y
dc_below w h p x y upper before wide high below =
    let value : luma_of_row y ≡ 129 = luma_low y below in
    let beside : (k : ℕ) → k < 4 → left p x (y + k) ≡ 129 = left_below w h p x y before wide high below in
    let under : y ≡ 0 → ⊥ = λ e. omega arith in
    elim (cases_lt (y - 1) 4) [
      | inl second ↦ record {
        top = 128;
        side = 129;
        above_is = λ k less. above_done luma_of_row w h p x y 4 k 128 upper wide (omega arith) under (luma_high (y - 1) second) less;
        left_is = beside;
        mean_is = mean_128_129 ∙ sym value;
      }
      | inr later ↦ record {
        top = 129;
        side = 129;
        above_is = λ k less. above_done luma_of_row w h p x y 4 k 129 upper wide (omega arith) under (luma_low (y - 1) later) less;
        left_is = beside;
        mean_is = mean_129_129 ∙ sym value;
      }
    ]

dc_round : (w h : ℕ) (p : Samples) (x y : ℕ) → IsDone luma_of_row w h (x + 4) y p → IsDone luma_of_row w h x (y + 4) p → x + 4 ≤ w → y + 4 ≤ h → (y ≡ 0) ⊎ (4 ≤ y) → IsRound p x y
dc_round w h p x y upper before wide high aligned =
    elim aligned [
      | inl top ↦ dc_top w h p x y before wide high top
      | inr below ↦ dc_below w h p x y upper before wide high below
    ]

-- each chroma sample
abbrev pub grey : ℕ → ℕ
grey y = 128

-- the sides of a chroma block, outside the frame and inside
above_outside : (p : Samples) (x y n : ℕ) → y ≡ 0 → above_side p x y n ≡ None
above_outside p x y n top = cond-true _ _ _ (eq-eqb y 0 top)

above_inside : (w h : ℕ) (p : Samples) (x y n : ℕ) → IsDone grey w h (x + n) y p → x + n ≤ w → y ≤ h → (y ≡ 0 → ⊥) → above_side p x y n ≡ Some (replicate n 128)
above_inside w h p x y n upper wide high under =
    cond-false _ _ _ (ne_eqb y 0 under) ∙ ap Some (above_row_is p x y n 128 (λ k less. above_done grey w h p x y n k 128 upper wide high under refl less))

left_outside : (p : Samples) (x y n : ℕ) → x ≡ 0 → left_side p x y n ≡ None
left_outside p x y n edge = cond-true _ _ _ (eq-eqb x 0 edge)

left_inside : (w h : ℕ) (p : Samples) (x y n : ℕ) → IsDone grey w h x (y + n) p → x ≤ w → y + n ≤ h → (x ≡ 0 → ⊥) → left_side p x y n ≡ Some (replicate n 128)
left_inside w h p x y n before wide high beside =
    cond-false _ _ _ (ne_eqb x 0 beside) ∙ ap Some (left_column_is p x y n 128 (λ k less. left_done grey w h p x y n k 128 before wide high beside refl less))

-- the sample of mode DC between two such sides
grey_mean : (p : Samples) (x y : ℕ) (upper beside : Option (List ℕ)) → above_side p x y 8 ≡ upper → left_side p x y 8 ≡ beside → mean_of (inside upper ++ inside beside) ≡ 128 → (column row : ℕ) → whole_block_sample p x y 8 WholeDc column row ≡ 128
unfolding whole_sample
grey_mean p x y upper beside upper_is beside_is mean column row =
    ap (λ side. mean_of (inside side ++ inside (left_side p x y 8))) upper_is ∙ ap (λ side. mean_of (inside upper ++ inside side)) beside_is ∙ mean

mean_none : mean_of [] ≡ 128
unfolding mean_of
mean_none = refl

mean_eight : mean_of (replicate 8 128) ≡ 128
unfolding mean_of
mean_eight = refl

mean_sixteen : mean_of (replicate 8 128 ++ replicate 8 128) ≡ 128
unfolding mean_of
mean_sixteen = refl

chroma_value : (w h : ℕ) (p : Samples) (x y : ℕ) → IsDone grey w h (x + 8) y p → IsDone grey w h x (y + 8) p → x + 8 ≤ w → y + 8 ≤ h → (column row : ℕ) → whole_block_sample p x y 8 WholeDc column row ≡ 128
chroma_value w h p x y upper before wide high =
    elim (cases_eq x 0) [
      | inl edge ↦ elim (cases_eq y 0) [
        | inl top ↦ grey_mean p x y None None (above_outside p x y 8 top) (left_outside p x y 8 edge) mean_none
        | inr under ↦ grey_mean p x y (Some (replicate 8 128)) None (above_inside w h p x y 8 upper wide (omega arith) under) (left_outside p x y 8 edge) mean_eight
      ]
      | inr beside ↦
          let left_is : left_side p x y 8 ≡ Some (replicate 8 128) = left_inside w h p x y 8 before (omega arith) high beside in
          elim (cases_eq y 0) [
            | inl top ↦ grey_mean p x y None (Some (replicate 8 128)) (above_outside p x y 8 top) left_is mean_eight
            | inr under ↦ grey_mean p x y (Some (replicate 8 128)) (Some (replicate 8 128)) (above_inside w h p x y 8 upper wide (omega arith) under) left_is mean_sixteen
          ]
    ]

-- ---- macroblocks

-- all rows of macroblocks above my are done, and mx macroblocks of row my
pub record IsBegun (of_row : ℕ → ℕ) (side columns rows my mx : ℕ) (p : Samples) : Type 0 where
  pub shape : IsPlane (side * columns) (side * rows) p
  pub upper : IsDone of_row (side * columns) (side * rows) (side * columns) (side * my) p
  pub before : IsDone of_row (side * columns) (side * rows) (side * mx) (side * my + side) p

chroma_step : (columns rows my mx : ℕ) (p : Samples) → mx < columns → my < rows → IsBegun grey 8 columns rows my mx p → IsBegun grey 8 columns rows my (suc mx) (predicted_whole p 8 mx my WholeDc None 16)
chroma_step columns rows my mx p in_row in_frame begun =
    let wide : 8 * mx + 8 ≤ 8 * columns = omega arith in
    let high : 8 * my + 8 ≤ 8 * rows = omega arith in
    let upper = IsDone-less grey (8 * columns) (8 * rows) (8 * columns) (8 * my) (8 * mx + 8) (8 * my) p (omega arith) (omega arith) begun.upper in
    let value : (column row : ℕ) → whole_block_sample p (8 * mx) (8 * my) 8 WholeDc column row ≡ 128 = chroma_value (8 * columns) (8 * rows) p (8 * mx) (8 * my) upper begun.before wide high in
    record {
      shape = IsPlane-with_block_rows (8 * columns) (8 * rows) p (8 * mx) (8 * my) 8 (whole_block_sample p (8 * mx) (8 * my) 8 WholeDc) 8 begun.shape;
      upper = block_kept grey (8 * columns) (8 * rows) (8 * columns) (8 * my) p (8 * mx) (8 * my) 8 (whole_block_sample p (8 * mx) (8 * my) 8 WholeDc) begun.shape wide high (λ column row less. value column row) begun.upper;
      before =
          IsDone-less grey (8 * columns) (8 * rows) (8 * mx + 8) (8 * my + 8) (8 * suc mx) (8 * my + 8) (predicted_whole p 8 mx my WholeDc None 16) (omega arith) (omega arith)
          (block_more grey (8 * columns) (8 * rows) p (8 * mx) (8 * my) 8 (whole_block_sample p (8 * mx) (8 * my) 8 WholeDc) begun.shape wide high (λ column row less. value column row) upper begun.before);
    }

-- the modes of the sub blocks of a blank macroblock
abbrev pub dcs : List SubMode
dcs = replicate 16 Dc

-- n sub blocks of the macroblock in column mx of row my are done, and all before it
pub record IsInside (columns rows my mx n : ℕ) (p : Samples) : Type 0 where
  pub begun : IsBegun luma_of_row 16 columns rows my mx p
  pub lines : IsDone luma_of_row (16 * columns) (16 * rows) (16 * mx + 16) (16 * my + 4 * (n / 4)) p
  pub line : n < 16 → IsDone luma_of_row (16 * columns) (16 * rows) (16 * mx + 4 * (n % 4)) (16 * my + 4 * (n / 4) + 4) p

aligned_or : (y q : ℕ) → y ≡ 4 * q → (y ≡ 0) ⊎ (4 ≤ y)
aligned_or y q e = elim (cases_eq q 0) [ inl top ↦ inl (omega arith) | inr below ↦ inr (omega arith) ]

-- the samples around the n-th block of a macroblock, which is the block at (x, y)
record StandsRound (w h x y : ℕ) (p : Samples) : Type 0 where
  pub wide : x + 4 ≤ w
  pub high : y + 4 ≤ h
  pub aligned : (y ≡ 0) ⊎ (4 ≤ y)
  pub upper : IsDone luma_of_row w h (x + 4) y p
  pub beside : IsDone luma_of_row w h x (y + 4) p

stands_round : (columns rows my mx n x y : ℕ) (p : Samples) → x ≡ 16 * mx + 4 * (n % 4) → y ≡ 16 * my + 4 * (n / 4) → mx < columns → my < rows → n < 16 → IsInside columns rows my mx n p → StandsRound (16 * columns) (16 * rows) x y p
stands_round columns rows my mx n x y p x_is y_is in_row in_frame in_block inside = record {
  wide = omega arith;
  high = omega arith;
  aligned = aligned_or y (4 * my + n / 4) (omega arith);
  upper = IsDone-less luma_of_row (16 * columns) (16 * rows) (16 * mx + 16) (16 * my + 4 * (n / 4)) (x + 4) y p (omega arith) (omega arith) inside.lines;
  beside = IsDone-less luma_of_row (16 * columns) (16 * rows) (16 * mx + 4 * (n % 4)) (16 * my + 4 * (n / 4) + 4) x (y + 4) p (omega arith) (omega arith) (inside.line in_block);
}

-- the n-th block is written with the value of its rows
sub_block_at : (columns rows my mx n x y : ℕ) (p : Samples) (sample : ℕ → ℕ → ℕ) → x ≡ 16 * mx + 4 * (n % 4) → y ≡ 16 * my + 4 * (n / 4) → mx < columns → my < rows → n < 16 → ((column row : ℕ) → sample column row ≡ luma_of_row y) → IsInside columns rows my mx n p → IsInside columns rows my mx (suc n) (with_block p x y 4 sample)
sub_block_at columns rows my mx n x y p sample x_is y_is in_row in_frame in_block value inside =
    let w = 16 * columns in
    let h = 16 * rows in
    let round = stands_round columns rows my mx n x y p x_is y_is in_row in_frame in_block inside in
    let right : (column row : ℕ) → row < 4 → sample column row ≡ luma_of_row (y + row) = λ column row less. value column row ∙ sym (luma_same y (y + row) round.aligned (omega arith) (omega arith)) in
    let after : IsDone luma_of_row (16 * columns) (16 * rows) (x + 4) (y + 4) (with_block p x y 4 sample) = block_more luma_of_row w h p x y 4 sample inside.begun.shape round.wide round.high right round.upper round.beside in
    let lines : IsDone luma_of_row (16 * columns) (16 * rows) (16 * mx + 16) (16 * my + 4 * (n / 4)) (with_block p x y 4 sample) = block_kept luma_of_row w h (16 * mx + 16) (16 * my + 4 * (n / 4)) p x y 4 sample inside.begun.shape round.wide round.high right inside.lines in
    let before : IsDone luma_of_row (16 * columns) (16 * rows) (16 * mx) (16 * my + 16) (with_block p x y 4 sample) = block_kept luma_of_row w h (16 * mx) (16 * my + 16) p x y 4 sample inside.begun.shape round.wide round.high right inside.begun.before in
    let begun : IsBegun luma_of_row 16 columns rows my mx (with_block p x y 4 sample) = record {
      shape = IsPlane-with_block_rows w h p x y 4 sample 4 inside.begun.shape;
      upper = block_kept luma_of_row w h w (16 * my) p x y 4 sample inside.begun.shape round.wide round.high right inside.begun.upper;
      before = before;
    } in
    elim (cases_lt (n % 4) 3) [
      | inl further ↦ record {
        begun = begun;
        lines = IsDone-less luma_of_row w h (16 * mx + 16) (16 * my + 4 * (n / 4)) (16 * mx + 16) (16 * my + 4 * (suc n / 4)) (with_block p x y 4 sample) (omega arith) (omega arith) lines;
        line = λ more. IsDone-less luma_of_row w h (x + 4) (y + 4) (16 * mx + 4 * (suc n % 4)) (16 * my + 4 * (suc n / 4) + 4) (with_block p x y 4 sample) (omega arith) (omega arith) after;
      }
      | inr last ↦ record {
        begun = begun;
        lines = IsDone-less luma_of_row w h (x + 4) (y + 4) (16 * mx + 16) (16 * my + 4 * (suc n / 4)) (with_block p x y 4 sample) (omega arith) (omega arith) after;
        line = λ more. IsDone-less luma_of_row w h (16 * mx) (16 * my + 16) (16 * mx + 4 * (suc n % 4)) (16 * my + 4 * (suc n / 4) + 4) (with_block p x y 4 sample) (omega arith) (omega arith) before;
      }
    ]

-- the sample of mode DC in the n-th block
sub_block_flat : (columns rows my mx n : ℕ) (p : Samples) → mx < columns → my < rows → n < 16 → IsInside columns rows my mx n p → (column row : ℕ) → sub_block_sample p mx my n Dc column row ≡ luma_of_row (sub_row my n)
sub_block_flat columns rows my mx n p in_row in_frame in_block inside =
    let round = stands_round columns rows my mx n (sub_column mx n) (sub_row my n) p refl refl in_row in_frame in_block inside in
    let wide : sub_column mx n + 4 ≤ p.width = omega (arith, round.wide, inside.begun.shape.wide) in
    dc_is p mx my n wide (dc_round (16 * columns) (16 * rows) p (sub_column mx n) (sub_row my n) round.upper round.beside round.wide round.high round.aligned)

sub_blocks_done : (columns rows my mx n : ℕ) (p : Samples) → mx < columns → my < rows → n ≤ 16 → IsBegun luma_of_row 16 columns rows my mx p → IsInside columns rows my mx n (predicted_sub_blocks p mx my dcs None n)
unfolding predicted_sub_blocks
sub_blocks_done columns rows my mx zero p in_row in_frame in_block begun = record {
  begun = begun;
  lines = IsDone-less luma_of_row (16 * columns) (16 * rows) (16 * columns) (16 * my) (16 * mx + 16) (16 * my + 4 * (0 / 4)) p (omega arith) (omega arith) begun.upper;
  line = λ more. IsDone-less luma_of_row (16 * columns) (16 * rows) (16 * mx) (16 * my + 16) (16 * mx + 4 * (0 % 4)) (16 * my + 4 * (0 / 4) + 4) p (omega arith) (omega arith) begun.before;
}
sub_blocks_done columns rows my mx (suc n) p in_row in_frame in_block begun =
    let q = predicted_sub_blocks p mx my dcs None n in
    let inside : IsInside columns rows my mx n (predicted_sub_blocks p mx my dcs None n) = sub_blocks_done columns rows my mx n p in_row in_frame (omega arith) begun in
    let mode : slice_index_or dcs n Dc ≡ Dc = get_or-replicate 16 n Dc Dc (omega arith) in
    sub_block_at columns rows my mx n (sub_column mx n) (sub_row my n) q (sub_block_sample q mx my n (slice_index_or dcs n Dc)) refl refl in_row in_frame (omega arith)
    (λ column row. ap (λ (m : SubMode). sub_block_sample q mx my n m column row) mode ∙ sub_block_flat columns rows my mx n q in_row in_frame (omega arith) inside column row) inside

luma_step : (columns rows my mx : ℕ) (p : Samples) → mx < columns → my < rows → IsBegun luma_of_row 16 columns rows my mx p → IsBegun luma_of_row 16 columns rows my (suc mx) (predicted_sub_blocks p mx my dcs None 16)
luma_step columns rows my mx p in_row in_frame begun =
    let inside = sub_blocks_done columns rows my mx 16 p in_row in_frame (omega arith) begun in
    record {
      shape = inside.begun.shape;
      upper = inside.begun.upper;
      before = IsDone-less luma_of_row (16 * columns) (16 * rows) (16 * mx + 16) (16 * my + 4 * (16 / 4)) (16 * suc mx) (16 * my + 16) (predicted_sub_blocks p mx my dcs None 16) (omega arith) (omega arith) inside.lines;
    }

-- ---- frames

-- a macroblock's index is one of the frame's
pub place_within : (columns rows my mx : ℕ) → mx < columns → my < rows → my * columns + mx < columns * rows
place_within columns rows my mx in_row in_frame = let fits = row_fits columns rows my in_frame in omega (arith, fits)

-- the known samples of each of the three planes
pub record AreBegun (columns rows my mx : ℕ) (planes : PlaneSamples) : Type 0 where
  pub luma : IsBegun luma_of_row 16 columns rows my mx planes.luma
  pub cb : IsBegun grey 8 columns rows my mx planes.cb
  pub cr : IsBegun grey 8 columns rows my mx planes.cr

-- each record of a frame is there, and blank, and none has a residual
record AreBlank (columns rows : ℕ) (modes : List MbMode) (residuals : ℕ → Residual) : Type 0 where
  pub count : length modes ≡ columns * rows
  pub each : (n : ℕ) (mode : MbMode) → slice_get modes n ≡ Some mode → IsBlank mode
  pub none : (n : ℕ) → n < length modes → residuals n ≡ None

abbrev blank : MbMode
blank = record { segment = 0; is_skipped = true; y_mode = B; sub_modes = dcs; uv_mode = WholeDc; vectors = replicate 16 zero_vector }

macroblock_done : (version : ℕ) (references : Option References) (columns rows my mx : ℕ) (planes : PlaneSamples) (mode : MbMode) (residual : Residual) → IsBlank mode → residual ≡ None → mx < columns → my < rows → AreBegun columns rows my mx planes → AreBegun columns rows my (suc mx) (predicted_macroblock version references planes mx my mode residual)
unfolding predicted_macroblock intra_macroblock
macroblock_done version references columns rows my mx planes mode residual is none in_row in_frame begun =
    let luma : IsBegun luma_of_row 16 columns rows my (suc mx) (predicted_luma planes.luma mx my mode.y_mode mode.sub_modes residual) = rw (none, is.0, is.1) (luma_step columns rows my mx planes.luma in_row in_frame begun.luma) in
    let cb : IsBegun grey 8 columns rows my (suc mx) (predicted_whole planes.cb 8 mx my mode.uv_mode residual 16) = rw (none, is.2) (chroma_step columns rows my mx planes.cb in_row in_frame begun.cb) in
    let cr : IsBegun grey 8 columns rows my (suc mx) (predicted_whole planes.cr 8 mx my mode.uv_mode residual 20) = rw (none, is.2) (chroma_step columns rows my mx planes.cr in_row in_frame begun.cr) in
    rw is.0 (record { luma = rw is.0 at luma; cb = cb; cr = cr })

row_done : (version : ℕ) (references : Option References) (columns rows my n : ℕ) (planes : PlaneSamples) (modes : List MbMode) (residuals : ℕ → Residual) → AreBlank columns rows modes residuals → my < rows → n ≤ columns → AreBegun columns rows my 0 (predicted_macroblocks version references planes columns modes residuals (my * columns)) → AreBegun columns rows my n (predicted_macroblocks version references planes columns modes residuals (my * columns + n))
row_done version references columns rows my zero planes modes residuals are in_frame in_row begun = rw add-zero begun
row_done version references columns rows my (suc n) planes modes residuals are in_frame in_row begun =
    let place : ℕ = my * columns + n in
    let before : AreBegun columns rows my n (predicted_macroblocks version references planes columns modes residuals place) = row_done version references columns rows my n planes modes residuals are in_frame (omega arith) begun in
    let within : place < length modes = rw are.count (place_within columns rows my n (omega arith) in_frame) in
    let mode : MbMode = get_or modes place blank in
    let found : slice_get modes place ≡ Some mode = slice_get-get_or modes place blank within in
    let after = macroblock_done version references columns rows my n (predicted_macroblocks version references planes columns modes residuals place) mode (residuals place) (are.each place mode found) (are.none place within) (omega arith) in_frame before in
    let more = predicted_more version references planes (predicted_macroblocks version references planes columns modes residuals place) (predicted_macroblock version references (predicted_macroblocks version references planes columns modes residuals place) n my mode (residuals place)) columns n my place modes residuals mode found refl refl refl (omega arith) in
    let next : my * columns + suc n ≡ place + 1 = omega arith in
    rw (next, ← more) after

-- a row of macroblocks that is done, as rows of samples
next_row : (of_row : ℕ → ℕ) (side columns rows my : ℕ) (p : Samples) → IsBegun of_row side columns rows my columns p → IsBegun of_row side columns rows (suc my) 0 p
next_row of_row side columns rows my p begun = record {
  shape = begun.shape;
  upper = IsDone-less of_row (side * columns) (side * rows) (side * columns) (side * my + side) (side * columns) (side * suc my) p (omega arith) (omega arith) begun.before;
  before = record { at = λ i j a b c d. absurd (omega arith) };
}

rows_done : (version : ℕ) (references : Option References) (columns rows n : ℕ) (planes : PlaneSamples) (modes : List MbMode) (residuals : ℕ → Residual) → AreBlank columns rows modes residuals → n ≤ rows → AreBegun columns rows 0 0 planes → AreBegun columns rows n 0 (predicted_macroblocks version references planes columns modes residuals (n * columns))
unfolding predicted_macroblocks
rows_done version references columns rows zero planes modes residuals are in_frame begun = rw zero-mul begun
rows_done version references columns rows (suc n) planes modes residuals are in_frame begun =
    let before = row_done version references columns rows n columns planes modes residuals are (omega arith) (omega arith) (rows_done version references columns rows n planes modes residuals are (omega arith) begun) in
    let next : suc n * columns ≡ n * columns + columns = omega arith in
    rw next (record {
      luma = next_row luma_of_row 16 columns rows n _ before.luma;
      cb = next_row grey 8 columns rows n _ before.cb;
      cr = next_row grey 8 columns rows n _ before.cr;
    })

none_begun : (of_row : ℕ → ℕ) (side columns rows : ℕ) → IsBegun of_row side columns rows 0 0 (uniform (side * columns) (side * rows) 0)
none_begun of_row side columns rows = record {
  shape = record { wide = refl; high = refl; whole = length-replicate (side * columns * (side * rows)) 0 };
  upper = record { at = λ i j a b c d. absurd (omega arith) };
  before = record { at = λ i j a b c d. absurd (omega arith) };
}

-- a macroblock that is skipped has no residual
no_residuals : (header : Header) (start : TokenState) (columns : ℕ) (modes : List MbMode) → ((n : ℕ) (mode : MbMode) → slice_get modes n ≡ Some mode → IsBlank mode) → (n : ℕ) → n < length modes → residual_at header columns start modes n ≡ None
unfolding residual_at
no_residuals header start columns modes each n within =
    let found : slice_get modes n ≡ Some (get_or modes n blank) = slice_get-get_or modes n blank within in
    let is : IsBlank (get_or modes n blank) = each n (get_or modes n blank) found in
    rw (found, is.3) refl

pub planes_flat : AreFlat
planes_flat version references header start columns rows modes x y count each =
    let residuals : ℕ → Residual = residual_at header columns start modes in
    let none : (n : ℕ) → n < length modes → residuals n ≡ None = no_residuals header start columns modes each in
    let begun : AreBegun columns rows 0 0 (empty_planes columns rows) = record { luma = none_begun luma_of_row 16 columns rows; cb = none_begun grey 8 columns rows; cr = none_begun grey 8 columns rows } in
    let are : AreBlank columns rows modes residuals = record { count = count; each = each; none = none } in
    let all : length modes ≡ rows * columns = omega (arith, count) in
    let done : AreBegun columns rows rows 0 (predicted_macroblocks version references (empty_planes columns rows) columns modes residuals (length modes)) = rw all (rows_done version references columns rows rows (empty_planes columns rows) modes residuals are (omega arith) begun) in
    (λ in_row in_frame. done.luma.upper.at x y in_row in_frame in_row in_frame, λ in_row in_frame. (done.cb.upper.at x y in_row in_frame in_row in_frame, done.cr.upper.at x y in_row in_frame in_row in_frame))
