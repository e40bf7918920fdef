-- Planes that agree on the macroblocks that are predicted already: what the others hold does not matter.
use Rattle.std.specs.Prelude.{slice_index, map, min, nat_lt, if◌then◌else◌, slice_index_or, Some, None}
use Rattle.std.specs.List.{range_with_len}
use Rattle.std.proofs.Common.{◌≡◌, ℕ, zero, suc, ◌+◌, ◌-◌, ◌*◌, ◌/◌, ◌%◌, ◌==◌, ◌<◌, ◌≤◌, inl, inr, List, length, refl, ap, sym, ◌∙◌, arith}
use Rattle.std.proofs.Math.Nat.{mod-lt, mul-le-mul_left}
use Rattle.std.proofs.lemmas.Bool.{cases_lt, cases_eq, ne_eqb, eq-eqb, lt-ltb, le-ltb, cond-true, cond-false}
use Rattle.std.proofs.lemmas.Grind.{same_number_lists}
use Rattle.std.proofs.lemmas.List.FromFn.{fill_by_all, length-map-range_with_len, get_or-map-range_with_len}
use Rattle.std.proofs.lemmas.Nat.{div-add-mod', div_below}
use Rattle.intra_predict.specs.declared.modes.SubMode.{SubMode}
use Rattle.intra_predict.specs.declared.modes.SubMode.TheVariants.{Dc}
use Rattle.intra_predict.specs.declared.modes.WholeMode.{WholeMode}
use Rattle.intra_predict.specs.SubSample.{sub_sample}
use Rattle.intra_predict.specs.WholeSample.{whole_sample}
use Rattle.pixel_planes.specs.Samples.{Samples, sample_at}
use Rattle.reference_frames.specs.Restored.{Residual, restored}
use Rattle.reference_frames.specs.Unfiltered.{above, left, corner, above_row, left_column, above_side, left_side, above_eight, sub_column, sub_row, right_row, sub_block_sample, whole_block_sample, with_block, predicted_sub_blocks, predicted_whole}
use Rattle.reference_frames.proofs.Flat.{IsPlane, IsPlane-with_block_rows, in_or_out, rows_in, rows_out, above_edge, left_edge}

-- in the first n columns and m rows two planes have the same samples
pub record Agree (w h n m : ℕ) (p q : Samples) : Type 0 where
  pub at : (i j : ℕ) → i < n → j < m → i < w → j < h → sample_at p i j ≡ sample_at q i j

-- fewer columns and rows
pub Agree-less : (w h n m n' m' : ℕ) (p q : Samples) → n' ≤ n → m' ≤ m → Agree w h n m p q → Agree w h n' m' p q
Agree-less w h n m n' m' p q fewer lower before = record { at = λ i j a b c d. before.at i j (omega (arith, a, fewer)) (omega (arith, b, lower)) c d }

-- ---- a block that is written into both

block_agrees : (w h n m : ℕ) (p q : Samples) (x y side : ℕ) (sample : ℕ → ℕ → ℕ) → IsPlane w h p → IsPlane w h q → x + side ≤ w → y + side ≤ h →
    ((i j : ℕ) → i < n → j < m → i < w → j < h → (x ≤ i → i < x + side → y ≤ j → j < y + side → ⊥) → sample_at p i j ≡ sample_at q i j) → Agree w h n m (with_block p x y side sample) (with_block q x y side sample)
block_agrees w h n m p q x y side sample sp sq wide high others =
    let at : (i j : ℕ) → i < n → j < m → i < w → j < h → sample_at (with_block p x y side sample) i j ≡ sample_at (with_block q x y side sample) i j = λ i j a b c d.
    elim (in_or_out x y side i j) [
      | inl inside ↦ rows_in w h p x y side sample side i j sp wide high inside.0 inside.1 inside.2 inside.3 ∙ sym (rows_in w h q x y side sample side i j sq wide high inside.0 inside.1 inside.2 inside.3)
      | inr outside ↦ rows_out w h p x y side sample side i j sp wide high c outside ∙ others i j a b c d outside ∙ sym (rows_out w h q x y side sample side i j sq wide high c outside)
    ] in
    record { at = at }

pub block_kept : (w h n m : ℕ) (p q : Samples) (x y side : ℕ) (sample : ℕ → ℕ → ℕ) → IsPlane w h p → IsPlane w h q → x + side ≤ w → y + side ≤ h → Agree w h n m p q → Agree w h n m (with_block p x y side sample) (with_block q x y side sample)
block_kept w h n m p q x y side sample sp sq wide high before = block_agrees w h n m p q x y side sample sp sq wide high (λ i j a b c d out. before.at i j a b c d)

pub block_more : (w h : ℕ) (p q : Samples) (x y side : ℕ) (sample : ℕ → ℕ → ℕ) → IsPlane w h p → IsPlane w h q → x + side ≤ w → y + side ≤ h → Agree w h (x + side) y p q → Agree w h x (y + side) p q → Agree w h (x + side) (y + side) (with_block p x y side sample) (with_block q x y side sample)
block_more w h p q x y side sample sp sq wide high upper before =
    block_agrees w h (x + side) (y + side) p q x y side sample sp sq wide high (λ i j a b c d out.
    elim (cases_lt i x) [
      | inl less ↦ before.at i j less b c d
      | inr from ↦ elim (cases_lt j y) [ inl less ↦ upper.at i j a less c d | inr below ↦ absurd (out from a below b) ]
    ])

-- ---- the samples around a block

pub mapped_same : (f g : ℕ → ℕ) (n : ℕ) → ((k : ℕ) → k < n → f k ≡ g k) → map f (range_with_len 0 n) ≡ map g (range_with_len 0 n)
mapped_same f g n each = fill_by_all g (map f (range_with_len 0 n)) n 0 (length-map-range_with_len f 0 n) (λ k less. get_or-map-range_with_len f 0 n k k 0 less (omega arith) ∙ each k less)

pub above_same : (p q : Samples) (i y : ℕ) → ((y ≡ 0 → ⊥) → sample_at p i (y - 1) ≡ sample_at q i (y - 1)) → above p i y ≡ above q i y
above_same p q i y same =
    elim (cases_eq y 0) [
      | inl top ↦ above_edge p i y top ∙ sym (above_edge q i y top)
      | inr under ↦ cond-false _ _ _ (ne_eqb y 0 under) ∙ same under ∙ sym (cond-false _ _ _ (ne_eqb y 0 under))
    ]

pub left_same : (p q : Samples) (x j : ℕ) → ((x ≡ 0 → ⊥) → sample_at p (x - 1) j ≡ sample_at q (x - 1) j) → left p x j ≡ left q x j
left_same p q x j same =
    elim (cases_eq x 0) [
      | inl edge ↦ left_edge p x j edge ∙ sym (left_edge q x j edge)
      | inr beside ↦ cond-false _ _ _ (ne_eqb x 0 beside) ∙ same beside ∙ sym (cond-false _ _ _ (ne_eqb x 0 beside))
    ]

above_row_same : (w h : ℕ) (p q : Samples) (x y n : ℕ) → Agree w h (x + n) y p q → x + n ≤ w → y ≤ h → above_row p x y n ≡ above_row q x y n
unfolding above_row
above_row_same w h p q x y n upper wide high =
    mapped_same (λ k. above p (x + k) y) (λ k. above q (x + k) y) n (λ k less. above_same p q (x + k) y (λ under. upper.at (x + k) (y - 1) (omega (arith, less)) (omega (arith, under)) (omega (arith, less, wide)) (omega (arith, under, high))))

left_column_same : (w h : ℕ) (p q : Samples) (x y n : ℕ) → Agree w h x (y + n) p q → x ≤ w → y + n ≤ h → left_column p x y n ≡ left_column q x y n
unfolding left_column
left_column_same w h p q x y n before wide high =
    mapped_same (λ k. left p x (y + k)) (λ k. left q x (y + k)) n (λ k less. left_same p q x (y + k) (λ beside. before.at (x - 1) (y + k) (omega (arith, beside)) (omega (arith, less)) (omega (arith, beside, wide)) (omega (arith, less, high))))

corner_same : (w h : ℕ) (p q : Samples) (x y n : ℕ) → Agree w h (x + n) y p q → x ≤ w → y ≤ h → corner p x y ≡ corner q x y
corner_same w h p q x y n upper wide high =
    elim (cases_eq y 0) [
      | inl top ↦ cond-true _ _ _ (eq-eqb y 0 top) ∙ sym (cond-true _ _ _ (eq-eqb y 0 top))
      | inr under ↦
          cond-false _ _ _ (ne_eqb y 0 under)
          ∙ left_same p q x (y - 1) (λ beside. upper.at (x - 1) (y - 1) (omega (arith, beside)) (omega (arith, under)) (omega (arith, beside, wide)) (omega (arith, under, high)))
          ∙ sym (cond-false _ _ _ (ne_eqb y 0 under))
    ]

-- the samples that a whole mode predicts
whole_same : (w h : ℕ) (p q : Samples) (x y side : ℕ) (mode : WholeMode) → Agree w h (x + side) y p q → Agree w h x (y + side) p q → x + side ≤ w → y + side ≤ h → whole_block_sample p x y side mode ≡ whole_block_sample q x y side mode
whole_same w h p q x y side mode upper before wide high =
    let row = above_row_same w h p q x y side upper wide (omega (arith, high)) in
    let column = left_column_same w h p q x y side before (omega (arith, wide)) high in
    let at = corner_same w h p q x y side upper (omega (arith, wide)) (omega (arith, high)) in
    ap (λ (r : List ℕ). whole_sample mode (if y == 0 then None else Some r) (left_side p x y side) (corner p x y)) row
    ∙ ap (λ (c : List ℕ). whole_sample mode (above_side q x y side) (if x == 0 then None else Some c) (corner p x y)) column
    ∙ ap (λ (c : ℕ). whole_sample mode (above_side q x y side) (left_side q x y side) c) at

-- ---- the macroblocks of a plane

-- both planes have the sides of a frame; all rows of macroblocks above my agree, and mx macroblocks of row my
pub record AgreeBefore (side columns rows my mx : ℕ) (p q : Samples) : Type 0 where
  pub first : IsPlane (side * columns) (side * rows) p
  pub second : IsPlane (side * columns) (side * rows) q
  pub upper : Agree (side * columns) (side * rows) (side * columns) (side * my) p q
  pub before : Agree (side * columns) (side * rows) (side * mx) (side * my + side) p q

-- the square of a macroblock
wide_in : (side mx columns : ℕ) → mx < columns → side * mx + side ≤ side * columns
wide_in side mx columns less = let le : side * (mx + 1) ≤ side * columns = mul-le-mul_left side (omega (arith, less)) in omega (arith, le)

-- a macroblock that is written with the same samples in both
pub square_step : (side columns rows my mx : ℕ) (p q : Samples) (sample : ℕ → ℕ → ℕ) → mx < columns → my < rows → AgreeBefore side columns rows my mx p q → AgreeBefore side columns rows my (suc mx) (with_block p (side * mx) (side * my) side sample) (with_block q (side * mx) (side * my) side sample)
square_step side columns rows my mx p q sample in_row in_frame are =
    let w : ℕ = side * columns in
    let h : ℕ = side * rows in
    let wide = wide_in side mx columns in_row in
    let high = wide_in side my rows in_frame in
    let next : side * suc mx ≡ side * mx + side = omega arith in
    record {
      first = IsPlane-with_block_rows w h p (side * mx) (side * my) side sample side are.first;
      second = IsPlane-with_block_rows w h q (side * mx) (side * my) side sample side are.second;
      upper = block_kept w h w (side * my) p q (side * mx) (side * my) side sample are.first are.second wide high are.upper;
      before = rw next (block_more w h p q (side * mx) (side * my) side sample are.first are.second wide high (Agree-less w h w (side * my) (side * mx + side) (side * my) p q wide (omega arith) are.upper) are.before);
    }

pub whole_step : (side columns rows my mx : ℕ) (p q : Samples) (mode : WholeMode) (residual : Residual) (first : ℕ) → mx < columns → my < rows → AgreeBefore side columns rows my mx p q →
    AgreeBefore side columns rows my (suc mx) (predicted_whole p side mx my mode residual first) (predicted_whole q side mx my mode residual first)
whole_step side columns rows my mx p q mode residual first in_row in_frame are =
    let w : ℕ = side * columns in
    let h : ℕ = side * rows in
    let wide = wide_in side mx columns in_row in
    let high = wide_in side my rows in_frame in
    let same = whole_same w h p q (side * mx) (side * my) side mode (Agree-less w h w (side * my) (side * mx + side) (side * my) p q wide (omega arith) are.upper) are.before wide high in
    rw same (square_step side columns rows my mx p q (restored side first residual (whole_block_sample q (side * mx) (side * my) side mode)) in_row in_frame are)

-- ---- sub blocks

-- n sub blocks of the macroblock in column mx of row my agree, and all before it
record AgreeInside (columns rows my mx n : ℕ) (p q : Samples) : Type 0 where
  are : AgreeBefore 16 columns rows my mx p q
  lines : Agree (16 * columns) (16 * rows) (16 * mx + 16) (16 * my + 4 * (n / 4)) p q
  line : n < 16 → Agree (16 * columns) (16 * rows) (16 * mx + 4 * (n % 4)) (16 * my + 4 * (n / 4) + 4) p q

-- a sample above a sub block, by the width of its plane
clamped_at : (p : Samples) (w column row : ℕ) → p.width ≡ w → above p (min column (p.width - 1)) row ≡ above p (min column (w - 1)) row
clamped_at p w column row wide = ap (λ (v : ℕ). above p (min column (v - 1)) row) wide

above_eight_same : (columns rows my mx n : ℕ) (p q : Samples) → mx < columns → my < rows → n < 16 → AgreeInside columns rows my mx n p q → above_eight p mx my n ≡ above_eight q mx my n
unfolding above_eight
above_eight_same columns rows my mx n p q in_row in_frame in_block inside =
    let w : ℕ = 16 * columns in
    let row_at : ℕ → ℕ = λ k. if nat_lt k 4 then sub_row my n else right_row my n in
    let of : Samples → ℕ → ℕ = λ r k. above r (min (sub_column mx n + k) (r.width - 1)) (row_at k) in
    mapped_same (of p) (of q) 8 (λ k less.
    let i : ℕ = min (sub_column mx n + k) (w - 1) in
    let column : i < w = omega (arith, in_row) in
    let same : above p i (row_at k) ≡ above q i (row_at k) = elim (cases_lt k 4) [
      | inl here ↦
          rw (lt-ltb k 4 here)
          (above_same p q i (sub_row my n) (λ under. inside.lines.at i (sub_row my n - 1) (omega (arith, here, in_block)) (omega (arith, under)) column (omega (arith, in_frame, in_block))))
      | inr right ↦ elim (cases_eq (n % 4) 3) [
        | inl last ↦
            rw (le-ltb k 4 right, eq-eqb (n % 4) 3 last)
            (above_same p q i (16 * my) (λ under. inside.are.upper.at i (16 * my - 1) column (omega (arith, under)) column (omega (arith, in_frame))))
        | inr further ↦
            rw (le-ltb k 4 right, ne_eqb (n % 4) 3 further)
            (above_same p q i (sub_row my n) (λ under. inside.lines.at i (sub_row my n - 1) (omega (arith, less, further, in_block)) (omega (arith, under)) column (omega (arith, in_frame, in_block))))
      ]
    ] in
    clamped_at p w (sub_column mx n + k) (row_at k) inside.are.first.wide ∙ same ∙ sym (clamped_at q w (sub_column mx n + k) (row_at k) inside.are.second.wide))

sub_same : (columns rows my mx n : ℕ) (p q : Samples) (mode : SubMode) → mx < columns → my < rows → n < 16 → AgreeInside columns rows my mx n p q → sub_block_sample p mx my n mode ≡ sub_block_sample q mx my n mode
sub_same columns rows my mx n p q mode in_row in_frame in_block inside =
    let w : ℕ = 16 * columns in
    let h : ℕ = 16 * rows in
    let x : ℕ = sub_column mx n in
    let y : ℕ = sub_row my n in
    let column = left_column_same w h p q x y 4 (inside.line in_block) (omega (arith, in_row)) (omega (arith, in_frame, in_block)) in
    let at = corner_same w h p q x y 4 (Agree-less w h (16 * mx + 16) (16 * my + 4 * (n / 4)) (x + 4) y p q (omega arith) (omega arith) inside.lines) (omega (arith, in_row)) (omega (arith, in_frame, in_block)) in
    let eight = above_eight_same columns rows my mx n p q in_row in_frame in_block inside in
    ap (λ (c : List ℕ). sub_sample mode c (corner p x y) (above_eight p mx my n)) column
    ∙ ap (λ (c : ℕ). sub_sample mode (left_column q x y 4) c (above_eight p mx my n)) at
    ∙ ap (λ (e : List ℕ). sub_sample mode (left_column q x y 4) (corner q x y) e) eight

-- the n-th sub block is written with the same samples in both
sub_block_at : (columns rows my mx n x y : ℕ) (p q : Samples) (sample : ℕ → ℕ → ℕ) → x ≡ 16 * mx + 4 * (n % 4) → y ≡ 16 * my + 4 * (n / 4) → mx < columns → my < rows → n < 16 → AgreeInside columns rows my mx n p q → AgreeInside columns rows my mx (suc n) (with_block p x y 4 sample) (with_block q x y 4 sample)
sub_block_at columns rows my mx n x y p q sample x_is y_is in_row in_frame in_block inside =
    let w : ℕ = 16 * columns in
    let h : ℕ = 16 * rows in
    let sp = inside.are.first in
    let sq = inside.are.second in
    let wide : x + 4 ≤ w = omega (arith, x_is, in_row) in
    let high : y + 4 ≤ h = omega (arith, y_is, in_frame, in_block) in
    let upper = Agree-less w h (16 * mx + 16) (16 * my + 4 * (n / 4)) (x + 4) y p q (omega (arith, x_is)) (omega (arith, y_is)) inside.lines in
    let beside = Agree-less w h (16 * mx + 4 * (n % 4)) (16 * my + 4 * (n / 4) + 4) x (y + 4) p q (omega (arith, x_is)) (omega (arith, y_is)) (inside.line in_block) in
    let after : Agree w h (x + 4) (y + 4) (with_block p x y 4 sample) (with_block q x y 4 sample) = block_more w h p q x y 4 sample sp sq wide high upper beside in
    let lines : Agree w h (16 * mx + 16) (16 * my + 4 * (n / 4)) (with_block p x y 4 sample) (with_block q x y 4 sample) = block_kept w h (16 * mx + 16) (16 * my + 4 * (n / 4)) p q x y 4 sample sp sq wide high inside.lines in
    let before : Agree w h (16 * mx) (16 * my + 16) (with_block p x y 4 sample) (with_block q x y 4 sample) = block_kept w h (16 * mx) (16 * my + 16) p q x y 4 sample sp sq wide high inside.are.before in
    let are : AgreeBefore 16 columns rows my mx (with_block p x y 4 sample) (with_block q x y 4 sample) = record {
      first = IsPlane-with_block_rows w h p x y 4 sample 4 sp;
      second = IsPlane-with_block_rows w h q x y 4 sample 4 sq;
      upper = block_kept w h w (16 * my) p q x y 4 sample sp sq wide high inside.are.upper;
      before = before;
    } in
    elim (cases_lt (n % 4) 3) [
      | inl further ↦ record {
        are = are;
        lines = Agree-less w h (16 * mx + 16) (16 * my + 4 * (n / 4)) (16 * mx + 16) (16 * my + 4 * (suc n / 4)) (with_block p x y 4 sample) (with_block q x y 4 sample) (omega arith) (omega arith) lines;
        line = λ more. Agree-less w h (x + 4) (y + 4) (16 * mx + 4 * (suc n % 4)) (16 * my + 4 * (suc n / 4) + 4) (with_block p x y 4 sample) (with_block q x y 4 sample) (omega arith) (omega arith) after;
      }
      | inr last ↦ record {
        are = are;
        lines = Agree-less w h (x + 4) (y + 4) (16 * mx + 16) (16 * my + 4 * (suc n / 4)) (with_block p x y 4 sample) (with_block q x y 4 sample) (omega arith) (omega arith) after;
        line = λ more. Agree-less w h (16 * mx) (16 * my + 16) (16 * mx + 4 * (suc n % 4)) (16 * my + 4 * (suc n / 4) + 4) (with_block p x y 4 sample) (with_block q x y 4 sample) (omega arith) (omega arith) before;
      }
    ]

sub_blocks_agree : (columns rows my mx n : ℕ) (p q : Samples) (modes : List SubMode) (residual : Residual) → mx < columns → my < rows → n ≤ 16 → AgreeBefore 16 columns rows my mx p q → AgreeInside columns rows my mx n (predicted_sub_blocks p mx my modes residual n) (predicted_sub_blocks q mx my modes residual n)
unfolding predicted_sub_blocks
sub_blocks_agree columns rows my mx zero p q modes residual in_row in_frame in_block are = record {
  are = are;
  lines = Agree-less (16 * columns) (16 * rows) (16 * columns) (16 * my) (16 * mx + 16) (16 * my + 4 * (0 / 4)) p q (omega (arith, in_row)) (omega arith) are.upper;
  line = λ more. Agree-less (16 * columns) (16 * rows) (16 * mx) (16 * my + 16) (16 * mx + 4 * (0 % 4)) (16 * my + 4 * (0 / 4) + 4) p q (omega arith) (omega arith) are.before;
}
sub_blocks_agree columns rows my mx (suc n) p q modes residual in_row in_frame in_block are =
    let p' : Samples = predicted_sub_blocks p mx my modes residual n in
    let q' : Samples = predicted_sub_blocks q mx my modes residual n in
    let mode : SubMode = slice_index_or modes n Dc in
    let inside : AgreeInside columns rows my mx n p' q' = sub_blocks_agree columns rows my mx n p q modes residual in_row in_frame (omega arith) are in
    let same = sub_same columns rows my mx n p' q' mode in_row in_frame (omega arith) inside in
    rw same (sub_block_at columns rows my mx n (sub_column mx n) (sub_row my n) p' q' (restored 4 n residual (sub_block_sample q' mx my n mode)) refl refl in_row in_frame (omega arith) inside)

pub sub_blocks_step : (columns rows my mx : ℕ) (p q : Samples) (modes : List SubMode) (residual : Residual) → mx < columns → my < rows → AgreeBefore 16 columns rows my mx p q → AgreeBefore 16 columns rows my (suc mx) (predicted_sub_blocks p mx my modes residual 16) (predicted_sub_blocks q mx my modes residual 16)
sub_blocks_step columns rows my mx p q modes residual in_row in_frame are =
    let inside = sub_blocks_agree columns rows my mx 16 p q modes residual in_row in_frame (omega arith) are in
    record {
      first = inside.are.first;
      second = inside.are.second;
      upper = inside.are.upper;
      before = Agree-less (16 * columns) (16 * rows) (16 * mx + 16) (16 * my + 4 * (16 / 4)) (16 * suc mx) (16 * my + 16) (predicted_sub_blocks p mx my modes residual 16) (predicted_sub_blocks q mx my modes residual 16) (omega arith) (omega arith) inside.lines;
    }

-- ---- whole planes

-- a row of macroblocks, as rows of samples
pub next_row : (side columns rows my : ℕ) (p q : Samples) → AgreeBefore side columns rows my columns p q → AgreeBefore side columns rows (suc my) 0 p q
next_row side columns rows my p q are =
    let next : side * suc my ≡ side * my + side = omega arith in
    record {
      first = are.first;
      second = are.second;
      upper = rw next are.before;
      before = record { at = λ i j a b c d. absurd (omega (arith, a)) };
    }

-- planes of which nothing is known
pub none_agree : (side columns rows : ℕ) (p q : Samples) → IsPlane (side * columns) (side * rows) p → IsPlane (side * columns) (side * rows) q → AgreeBefore side columns rows 0 0 p q
none_agree side columns rows p q first second = record {
  first = first;
  second = second;
  upper = record { at = λ i j a b c d. absurd (omega (arith, b)) };
  before = record { at = λ i j a b c d. absurd (omega (arith, a)) };
}

same_planes : (p q : Samples) → p.width ≡ q.width → p.height ≡ q.height → p.samples ≡ q.samples → p ≡ q
same_planes p q wide high samples = ap (λ (w : ℕ). record { width = w; height = p.height; samples = p.samples }) wide ∙ ap (λ (h : ℕ). record { width = q.width; height = h; samples = p.samples }) high ∙ ap (λ (s : List ℕ). record { width = q.width; height = q.height; samples = s }) samples

-- planes that agree everywhere are the same
pub all_agree : (side columns rows : ℕ) (p q : Samples) → 0 < side → 0 < columns → AgreeBefore side columns rows rows 0 p q → p ≡ q
all_agree side columns rows p q some some_columns are =
    let w : ℕ = side * columns in
    let h : ℕ = side * rows in
    let wide : p.width ≡ q.width = are.first.wide ∙ sym are.second.wide in
    let long : length p.samples ≡ length q.samples = are.first.whole ∙ rw (are.first.wide, are.first.high, are.second.wide, are.second.high) refl ∙ sym are.second.whole in
    let some_width : 0 < w = grind arith in
    same_planes p q wide (are.first.high ∙ sym are.second.high) (same_number_lists p.samples q.samples long (λ k below.
    let place : k / w * w + k % w ≡ k = div-add-mod' k w in
    let whole : length p.samples ≡ w * h = are.first.whole ∙ rw (are.first.wide, are.first.high) refl in
    let row : k / w < h = div_below k w h some_width (omega (arith, below, whole)) in
    let at = are.upper.at (k % w) (k / w) (mod-lt k some_width) row (mod-lt k some_width) row in
    let left : sample_at p (k % w) (k / w) ≡ slice_index p.samples k = rw (are.first.wide, place) refl in
    let right : sample_at q (k % w) (k / w) ≡ slice_index q.samples k = rw (are.second.wide, place) refl in
    sym left ∙ at ∙ right))
