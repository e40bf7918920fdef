-- Whole blocks that were predicted in place, among the samples of a plane.
use Rattle.std.specs.Prelude.{slice_index, slice_range, Some}
use Rattle.std.specs.List.{range_with_len}
use Rattle.std.proofs.Common.{◌≡◌, ℕ, zero, suc, ◌+◌, ◌-◌, ◌*◌, ◌<◌, ◌≤◌, inl, inr, List, [], ◌++◌, length, map, take, drop, refl, ap, sym, subst, ◌∙◌, eq-eqb, arith}
use Rattle.std.proofs.lemmas.Bool.{cases_eq, ne_eqb, cond-true, cond-false}
use Rattle.std.proofs.lemmas.List.{append-nil, take-append-drop, take_rest, drop_all, length-drop}
use Rattle.std.proofs.lemmas.List.FromFn.{fill_by_all, length-map-range_with_len, get_or-map-range_with_len}
use Rattle.intra_predict.specs.InPlace.{above_among, left_among, corner_among, whole_among, IsBlockFrom}
use Rattle.intra_predict.specs.declared.corners.Corner.{Corner}
use Rattle.intra_predict.specs.declared.modes.WholeMode.{WholeMode}
use Rattle.pixel_planes.specs.Layout.{cropped}
use Rattle.pixel_planes.specs.Samples.{Samples, sample_at}
use Rattle.reference_frames.specs.PlacedBlocks.{IsPlaced, from_corner}
use Rattle.reference_frames.specs.Unfiltered.{above, left, corner, above_row, left_column, above_side, left_side, whole_block_sample}
use Rattle.reference_frames.proofs.Placed.{placed_at, as_block_in}
use Rattle.reference_frames.proofs.PlacedInPlanes.{crop_sample}
use Rattle.reference_frames.proofs.Sides.{part_is_map}
use Rattle.reference_frames.proofs.Squares.{rows_room, start_within}

-- a block that starts at the index of its corner is a square of the samples
pub from_placed : (f : ℕ → ℕ → ℕ) (across side x y : ℕ) (old new : List ℕ) → 0 < side → x + side ≤ across → (y + side) * across ≤ length old → IsBlockFrom f (across * y + x) side side across old new → IsPlaced (from_corner x y f) across side x y old new
from_placed f across side x y old new some wide high is =
    let start : ℕ = across * y + x in
    let room : start ≤ length old = start_within across side x y (length old) some wide high in
    let whole : take start old ++ (drop start new ++ []) ≡ new = ap (λ (l : List ℕ). l ++ (drop start new ++ [])) (sym is.before) ∙ ap (λ (l : List ℕ). take start new ++ l) (append-nil (drop start new)) ∙ take-append-drop start new in
    let none : [] ≡ drop (length old - start) (drop start old) = sym (drop_all (length old - start) (drop start old) (omega (arith, length-drop start old))) in
    subst (λ (l : List ℕ). IsPlaced (from_corner x y f) across side x y old l) whole
    (placed_at (from_corner x y f) f across side x y old (drop start new) [] some wide high (λ i j inside. refl) (as_block_in f side across (take (length old - start) (drop start old)) (drop start new) (rw (take_rest old start) is.block)) none)

-- ---- the sides of a block among the rows that a plane lends are its sides in the plane

-- a sample of the rows
lent_sample : (p : Samples) (across : ℕ) (rows : List ℕ) (i j : ℕ) → cropped p.width p.height across rows ≡ p → p.width ≤ across → length rows ≡ p.height * across → i < p.width → j < p.height → slice_index rows (j * across + i) ≡ sample_at p i j
lent_sample p across rows i j shown narrow long within below = sym (crop_sample p.width p.height across rows i j narrow long within below) ∙ ap (λ (q : Samples). sample_at q i j) shown

-- indices above a block, to its left, and at its corner
over_row : (across x y k : ℕ) → across * (y + 1) + x - across + k ≡ y * across + (x + k)
over_row across x y k = omega arith

over_row_beside : (across x y : ℕ) → across * (y + 1) + suc x - across - 1 ≡ y * across + (suc x - 1)
over_row_beside across x y = omega arith

index_over : (across x y k : ℕ) → (y ≡ 0 → ⊥) → across * y + x - across + k ≡ (y - 1) * across + (x + k)
index_over across x zero k below = absurd (below refl)
index_over across x (suc y) k below =
    let next : suc y ≡ y + 1 = omega arith in
    let back : y + 1 - 1 ≡ y = omega arith in
    rw (next, back) (over_row across x y k)

index_beside : (across x y k : ℕ) → (x ≡ 0 → ⊥) → across * y + x + k * across - 1 ≡ (y + k) * across + (x - 1)
index_beside across zero y k inner = absurd (inner refl)
index_beside across (suc x) y k inner = omega arith

index_diagonal : (across x y : ℕ) → (x ≡ 0 → ⊥) → (y ≡ 0 → ⊥) → across * y + x - across - 1 ≡ (y - 1) * across + (x - 1)
index_diagonal across x zero inner below = absurd (below refl)
index_diagonal across zero (suc y) inner below = absurd (inner refl)
index_diagonal across (suc x) (suc y) inner below =
    let next : suc y ≡ y + 1 = omega arith in
    let back : y + 1 - 1 ≡ y = omega arith in
    rw (next, back) (over_row_beside across x y)

-- the samples above, below the top of the frame
above_lent : (p : Samples) (across x y n : ℕ) (rows : List ℕ) → cropped p.width p.height across rows ≡ p → p.width ≤ across → length rows ≡ p.height * across → x + n ≤ p.width → y + n ≤ p.height → (y ≡ 0 → ⊥) → slice_range rows (across * y + x - across) (across * y + x - across + n) ≡ above_row p x y n
unfolding above_row
above_lent p across x y n rows shown narrow long wide high below =
    let first : ℕ = across * y + x - across in
    let over : first + n ≡ (y - 1) * across + (x + n) = index_over across x y n below in
    let room : (y - 1 + 1) * across ≤ length rows = rows_room (y - 1 + 1) p.height across (length rows) (omega (arith, high, below)) (omega (arith, long)) in
    part_is_map (λ k. above p (x + k) y) rows first n (omega (arith, over, room, wide, narrow)) (λ k less.
    cond-false _ _ _ (ne_eqb _ _ below)
    ∙ sym (lent_sample p across rows (x + k) (y - 1) shown narrow long (omega (arith, wide, less)) (omega (arith, high, below, less)))
    ∙ ap (λ (i : ℕ). slice_index rows i) (sym (index_over across x y k below)))

-- the samples to the left, right of the frame's edge
left_lent : (p : Samples) (across x y n : ℕ) (rows : List ℕ) → cropped p.width p.height across rows ≡ p → p.width ≤ across → length rows ≡ p.height * across → x + n ≤ p.width → y + n ≤ p.height → (x ≡ 0 → ⊥) → map (λ row. slice_index rows (across * y + x + row * across - 1)) (range_with_len 0 n) ≡ left_column p x y n
unfolding left_column
left_lent p across x y n rows shown narrow long wide high inner =
    let there : ℕ → ℕ = λ (row : ℕ). slice_index rows (across * y + x + row * across - 1) in
    fill_by_all (λ k. left p x (y + k)) (map there (range_with_len 0 n)) n 0 (length-map-range_with_len there 0 n) (λ k less.
    get_or-map-range_with_len there 0 n k k 0 less (omega arith)
    ∙ ap (λ (i : ℕ). slice_index rows i) (index_beside across x y k inner)
    ∙ lent_sample p across rows (x - 1) (y + k) shown narrow long (omega (arith, wide, inner, less)) (omega (arith, high, less))
    ∙ sym (cond-false _ _ _ (ne_eqb _ _ inner)))

-- the sides and the corner, at the edges of the frame too
above_same : (p : Samples) (place : Corner) (n : ℕ) (rows : List ℕ) → cropped p.width p.height place.across rows ≡ p → p.width ≤ place.across → length rows ≡ p.height * place.across → place.column + n ≤ p.width → place.row + n ≤ p.height → above_among rows place n ≡ above_side p place.column place.row n
above_same p place n rows shown narrow long wide high =
    elim (cases_eq place.row 0) [
      | inl top ↦ cond-true _ _ _ (eq-eqb _ _ top) ∙ sym (cond-true _ _ _ (eq-eqb _ _ top))
      | inr below ↦ cond-false _ _ _ (ne_eqb _ _ below) ∙ ap (λ (l : List ℕ). Some l) (above_lent p place.across place.column place.row n rows shown narrow long wide high below) ∙ sym (cond-false _ _ _ (ne_eqb _ _ below))
    ]

left_same : (p : Samples) (place : Corner) (n : ℕ) (rows : List ℕ) → cropped p.width p.height place.across rows ≡ p → p.width ≤ place.across → length rows ≡ p.height * place.across → place.column + n ≤ p.width → place.row + n ≤ p.height → left_among rows place n ≡ left_side p place.column place.row n
left_same p place n rows shown narrow long wide high =
    elim (cases_eq place.column 0) [
      | inl first ↦ cond-true _ _ _ (eq-eqb _ _ first) ∙ sym (cond-true _ _ _ (eq-eqb _ _ first))
      | inr inner ↦ cond-false _ _ _ (ne_eqb _ _ inner) ∙ ap (λ (l : List ℕ). Some l) (left_lent p place.across place.column place.row n rows shown narrow long wide high inner) ∙ sym (cond-false _ _ _ (ne_eqb _ _ inner))
    ]

corner_same : (p : Samples) (place : Corner) (n : ℕ) (rows : List ℕ) → cropped p.width p.height place.across rows ≡ p → p.width ≤ place.across → length rows ≡ p.height * place.across → place.column + n ≤ p.width → place.row + n ≤ p.height → 0 < n → corner_among rows place ≡ corner p place.column place.row
corner_same p place n rows shown narrow long wide high some =
    elim (cases_eq place.row 0) [
      | inl top ↦ cond-true _ _ _ (eq-eqb _ _ top) ∙ sym (cond-true _ _ _ (eq-eqb _ _ top))
      | inr below ↦
          cond-false _ _ _ (ne_eqb _ _ below)
          ∙ elim (cases_eq place.column 0) [
            | inl first ↦ cond-true _ _ _ (eq-eqb _ _ first) ∙ sym (cond-true _ _ _ (eq-eqb _ _ first))
            | inr inner ↦
                cond-false _ _ _ (ne_eqb _ _ inner)
                ∙ ap (λ (i : ℕ). slice_index rows i) (index_diagonal place.across place.column place.row inner below)
                ∙ lent_sample p place.across rows (place.column - 1) (place.row - 1) shown narrow long (omega (arith, wide, inner, some)) (omega (arith, high, below, some))
                ∙ sym (cond-false _ _ _ (ne_eqb _ _ inner))
          ]
          ∙ sym (cond-false _ _ _ (ne_eqb _ _ below))
    ]

-- the samples that a mode predicts by them
pub whole_same : (p : Samples) (place : Corner) (n : ℕ) (mode : WholeMode) (rows : List ℕ) → cropped p.width p.height place.across rows ≡ p → p.width ≤ place.across → length rows ≡ p.height * place.across → place.column + n ≤ p.width → place.row + n ≤ p.height → 0 < n → whole_among mode rows place n ≡ whole_block_sample p place.column place.row n mode
whole_same p place n mode rows shown narrow long wide high some =
    rw (above_same p place n rows shown narrow long wide high, left_same p place n rows shown narrow long wide high, corner_same p place n rows shown narrow long wide high some) refl
