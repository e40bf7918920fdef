-- Samples that are written over the first rows of a plane change no prediction in the rows below them.
use Rattle.std.specs.Prelude.{min, nat_lt, if◌then◌else◌, slice_index_or, Some, None}
use Rattle.std.specs.Simd.Lanes.{put_chunk}
use Rattle.std.proofs.Common.{◌≡◌, ℕ, zero, suc, ◌+◌, ◌-◌, ◌*◌, ◌%◌, ◌==◌, ◌<◌, ◌≤◌, inl, inr, false, List, [], ◌∷◌, length, take, drop, refl, ap, sym, ◌∙◌, arith}
use Rattle.std.proofs.Math.Nat.{mul-le-mul_right}
use Rattle.std.proofs.lemmas.Bool.{cases_lt, cases_eq, ne_eqb, eq-eqb, lt-ltb, le-ltb, cond-false}
use Rattle.std.proofs.lemmas.Simd.{get_or-put_chunk_above}
use Rattle.intra_predict.specs.declared.modes.SubMode.{SubMode}
use Rattle.intra_predict.specs.declared.modes.SubMode.TheVariants.{Dc}
use Rattle.intra_predict.specs.declared.modes.WholeMode.{WholeMode}
use Rattle.intra_predict.specs.SubSample.{sub_sample}
use Rattle.intra_predict.specs.WholeSample.{whole_sample}
use Rattle.pixel_planes.specs.Samples.{Samples, sample_at, row_of}
use Rattle.reference_frames.specs.Restored.{Residual, restored}
use Rattle.reference_frames.specs.Unfiltered.{above, corner, left, above_row, left_column, above_side, left_side, above_eight, sub_column, sub_row, right_row, sub_block_sample, whole_block_sample, block_row, with_span, with_block, with_block_rows, predicted_sub_block, predicted_sub_blocks, predicted_whole}
use Rattle.reference_frames.proofs.Agree.{mapped_same, above_same, left_same}
use Rattle.reference_frames.proofs.Flat.{IsPlane, IsPlane-with_block_rows}

-- the plane with other samples at its front
abbrev pub with_front : Samples → List ℕ → Samples
with_front p front = record p { samples = put_chunk 0 p.samples front }

-- ---- lists

drop_front : (samples front : List ℕ) (k : ℕ) → length front ≤ k → drop k (put_chunk 0 samples front) ≡ drop k samples
drop_front [] front k room = refl
drop_front (s ∷ samples) [] k room = refl
drop_front (s ∷ samples) (f ∷ front) zero room = absurd (omega (arith, room))
drop_front (s ∷ samples) (f ∷ front) (suc k) room = drop_front samples front k (omega (arith, room))

pub nothing_put : (samples : List ℕ) → put_chunk 0 samples [] ≡ samples
nothing_put [] = refl
nothing_put (s ∷ samples) = refl

-- samples that are written behind the front
put_behind : (samples front row : List ℕ) (k : ℕ) → length front ≤ k → put_chunk k (put_chunk 0 samples front) row ≡ put_chunk 0 (put_chunk k samples row) front
put_behind [] front row k room = refl
put_behind (s ∷ samples) [] row k room = sym (nothing_put (put_chunk k (s ∷ samples) row))
put_behind (s ∷ samples) (f ∷ front) row zero room = absurd (omega (arith, room))
put_behind (s ∷ samples) (f ∷ front) row (suc k) room = ap (λ l. f ∷ l) (put_behind samples front row k (omega (arith, room)))

-- ---- a plane

-- the front ends before line l of a plane of this width
abbrev pub EndsBefore : ℕ → ℕ → List ℕ → Type 0
EndsBefore w l front = length front ≤ l * w

before_line : (w l j : ℕ) (front : List ℕ) → EndsBefore w l front → l ≤ j → length front ≤ j * w
before_line w l j front ends from = let upto : l * w ≤ j * w = mul-le-mul_right w from in omega (arith, ends, upto)

-- sub blocks keep the shape of their plane
pub sub_blocks_shape : (w h : ℕ) (p : Samples) (mx my : ℕ) (modes : List SubMode) (residual : Residual) (n : ℕ) → IsPlane w h p → IsPlane w h (predicted_sub_blocks p mx my modes residual n)
unfolding predicted_sub_blocks
sub_blocks_shape w h p mx my modes residual zero shape = shape
sub_blocks_shape w h p mx my modes residual (suc n) shape =
    let q : Samples = predicted_sub_blocks p mx my modes residual n in
    IsPlane-with_block_rows w h q (sub_column mx n) (sub_row my n) 4 (restored 4 n residual (sub_block_sample q mx my n (slice_index_or modes n Dc))) 4 (sub_blocks_shape w h p mx my modes residual n shape)

module _ (w h l : ℕ) (front : List ℕ) (ends : EndsBefore w l front) where
  sample_kept : (p : Samples) (i j : ℕ) → IsPlane w h p → l ≤ j → sample_at (with_front p front) i j ≡ sample_at p i j
  sample_kept p i j shape from =
      let line : length front ≤ j * p.width = rw shape.wide (before_line w l j front ends from) in
      get_or-put_chunk_above 0 p.samples front (j * p.width + i) 0 (omega (arith, line))

  row_kept : (p : Samples) (j : ℕ) → IsPlane w h p → l ≤ j → row_of (with_front p front) j ≡ row_of p j
  row_kept p j shape from =
      let line : length front ≤ j * p.width = rw shape.wide (before_line w l j front ends from) in
      ap (take (j * p.width + p.width - j * p.width)) (drop_front p.samples front (j * p.width) line)

  -- a block that is written below the front
  span_behind : (p : Samples) (x j : ℕ) (span : List ℕ) → IsPlane w h p → l ≤ j → with_span (with_front p front) x j span ≡ with_front (with_span p x j span) front
  span_behind p x j span shape from =
      let line : length front ≤ j * p.width = rw shape.wide (before_line w l j front ends from) in
      let samples : put_chunk (j * p.width) (put_chunk 0 p.samples front) (put_chunk x (row_of (with_front p front) j) span) ≡ put_chunk 0 (put_chunk (j * p.width) p.samples (put_chunk x (row_of p j) span)) front =
      ap (λ r. put_chunk (j * p.width) (put_chunk 0 p.samples front) (put_chunk x r span)) (row_kept p j shape from) ∙ put_behind p.samples front (put_chunk x (row_of p j) span) (j * p.width) line in
      ap (λ (s : List ℕ). record p { samples = s }) samples

  block_rows_behind : (p : Samples) (x y side : ℕ) (sample : ℕ → ℕ → ℕ) (n : ℕ) → IsPlane w h p → l ≤ y → with_block_rows (with_front p front) x y side sample n ≡ with_front (with_block_rows p x y side sample n) front
  unfolding with_block_rows
  block_rows_behind p x y side sample zero shape from = refl
  block_rows_behind p x y side sample (suc n) shape from =
      ap (λ q. with_span q x (y + n) (block_row side sample n)) (block_rows_behind p x y side sample n shape from)
      ∙ span_behind (with_block_rows p x y side sample n) x (y + n) (block_row side sample n) (IsPlane-with_block_rows w h p x y side sample n shape) (omega (arith, from))

  pub block_behind : (p : Samples) (x y side : ℕ) (sample : ℕ → ℕ → ℕ) → IsPlane w h p → l ≤ y → with_block (with_front p front) x y side sample ≡ with_front (with_block p x y side sample) front
  block_behind p x y side sample shape from = block_rows_behind p x y side sample side shape from

  -- ---- the samples around a block

  above_row_kept : (p : Samples) (x y n : ℕ) → IsPlane w h p → l < y → above_row (with_front p front) x y n ≡ above_row p x y n
  unfolding above_row
  above_row_kept p x y n shape from =
      mapped_same (λ k. above (with_front p front) (x + k) y) (λ k. above p (x + k) y) n (λ k less. above_same (with_front p front) p (x + k) y (λ under. sample_kept p (x + k) (y - 1) shape (omega (arith, from))))

  left_column_kept : (p : Samples) (x y n : ℕ) → IsPlane w h p → l ≤ y → left_column (with_front p front) x y n ≡ left_column p x y n
  unfolding left_column
  left_column_kept p x y n shape from =
      mapped_same (λ k. left (with_front p front) x (y + k)) (λ k. left p x (y + k)) n (λ k less. left_same (with_front p front) p x (y + k) (λ beside. sample_kept p (x - 1) (y + k) shape (omega (arith, from))))

  corner_kept : (p : Samples) (x y : ℕ) → IsPlane w h p → l < y → corner (with_front p front) x y ≡ corner p x y
  corner_kept p x y shape from =
      let under : (y == 0) ≡ false = ne_eqb y 0 (λ top. absurd (omega (arith, top, from))) in
      cond-false _ _ _ under ∙ left_same (with_front p front) p x (y - 1) (λ beside. sample_kept p (x - 1) (y - 1) shape (omega (arith, from))) ∙ sym (cond-false _ _ _ under)

  whole_kept : (p : Samples) (x y side : ℕ) (mode : WholeMode) → IsPlane w h p → l < y → whole_block_sample (with_front p front) x y side mode ≡ whole_block_sample p x y side mode
  whole_kept p x y side mode shape from =
      let q : Samples = with_front p front in
      ap (λ (r : List ℕ). whole_sample mode (if y == 0 then None else Some r) (left_side q x y side) (corner q x y)) (above_row_kept p x y side shape from)
      ∙ ap (λ (c : List ℕ). whole_sample mode (above_side p x y side) (if x == 0 then None else Some c) (corner q x y)) (left_column_kept p x y side shape (omega (arith, from)))
      ∙ ap (λ (c : ℕ). whole_sample mode (above_side p x y side) (left_side p x y side) c) (corner_kept p x y shape from)

  pub whole_behind : (p : Samples) (side mx my : ℕ) (mode : WholeMode) (residual : Residual) (first : ℕ) → IsPlane w h p → l < side * my → predicted_whole (with_front p front) side mx my mode residual first ≡ with_front (predicted_whole p side mx my mode residual first) front
  whole_behind p side mx my mode residual first shape from =
      ap (λ f. with_block (with_front p front) (side * mx) (side * my) side (restored side first residual f)) (whole_kept p (side * mx) (side * my) side mode shape from)
      ∙ block_behind p (side * mx) (side * my) side (restored side first residual (whole_block_sample p (side * mx) (side * my) side mode)) shape (omega (arith, from))

  -- ---- sub blocks

  eight_kept : (p : Samples) (mx my n : ℕ) → IsPlane w h p → l < 16 * my → above_eight (with_front p front) mx my n ≡ above_eight p mx my n
  unfolding above_eight
  eight_kept p mx my n shape from =
      let row_at : ℕ → ℕ = λ k. if nat_lt k 4 then sub_row my n else right_row my n in
      let of : Samples → ℕ → ℕ = λ r k. above r (min (sub_column mx n + k) (r.width - 1)) (row_at k) in
      mapped_same (of (with_front p front)) (of p) 8 (λ k less.
      let i : ℕ = min (sub_column mx n + k) (p.width - 1) in
      let below : 16 * my ≤ row_at k = elim (cases_lt k 4) [
        | inl here ↦ rw (lt-ltb k 4 here) (omega arith)
        | inr right ↦ elim (cases_eq (n % 4) 3) [
          | inl last ↦ rw (le-ltb k 4 right, eq-eqb (n % 4) 3 last) (omega arith)
          | inr further ↦ rw (le-ltb k 4 right, ne_eqb (n % 4) 3 further) (omega arith)
        ]
      ] in
      above_same (with_front p front) p i (row_at k) (λ under. sample_kept p i (row_at k - 1) shape (omega (arith, from, below))))

  sub_kept : (p : Samples) (mx my n : ℕ) (mode : SubMode) → IsPlane w h p → l < 16 * my → sub_block_sample (with_front p front) mx my n mode ≡ sub_block_sample p mx my n mode
  sub_kept p mx my n mode shape from =
      let q : Samples = with_front p front in
      let x : ℕ = sub_column mx n in
      let y : ℕ = sub_row my n in
      ap (λ (c : List ℕ). sub_sample mode c (corner q x y) (above_eight q mx my n)) (left_column_kept p x y 4 shape (omega (arith, from)))
      ∙ ap (λ (c : ℕ). sub_sample mode (left_column p x y 4) c (above_eight q mx my n)) (corner_kept p x y shape (omega (arith, from)))
      ∙ ap (λ (e : List ℕ). sub_sample mode (left_column p x y 4) (corner p x y) e) (eight_kept p mx my n shape from)

  sub_block_behind : (p : Samples) (mx my n : ℕ) (mode : SubMode) (residual : Residual) → IsPlane w h p → l < 16 * my → predicted_sub_block (with_front p front) mx my n mode residual ≡ with_front (predicted_sub_block p mx my n mode residual) front
  sub_block_behind p mx my n mode residual shape from =
      ap (λ f. with_block (with_front p front) (sub_column mx n) (sub_row my n) 4 (restored 4 n residual f)) (sub_kept p mx my n mode shape from)
      ∙ block_behind p (sub_column mx n) (sub_row my n) 4 (restored 4 n residual (sub_block_sample p mx my n mode)) shape (omega (arith, from))

  pub sub_blocks_behind : (p : Samples) (mx my : ℕ) (modes : List SubMode) (residual : Residual) (n : ℕ) → IsPlane w h p → l < 16 * my → predicted_sub_blocks (with_front p front) mx my modes residual n ≡ with_front (predicted_sub_blocks p mx my modes residual n) front
  unfolding predicted_sub_blocks
  sub_blocks_behind p mx my modes residual zero shape from = refl
  sub_blocks_behind p mx my modes residual (suc n) shape from =
      ap (λ q. predicted_sub_block q mx my n (slice_index_or modes n Dc) residual) (sub_blocks_behind p mx my modes residual n shape from)
      ∙ sub_block_behind (predicted_sub_blocks p mx my modes residual n) mx my n (slice_index_or modes n Dc) residual (sub_blocks_shape w h p mx my modes residual n shape) from
