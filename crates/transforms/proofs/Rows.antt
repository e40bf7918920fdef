-- Rows of residuals that are added in sequence.
use Rattle.std.proofs.Common.{◌≡◌, ℕ, zero, suc, ◌+◌, ◌*◌, ◌<◌, ◌≤◌, ◌⊎◌, inl, inr, List, length, get_or, set, refl, ap, ◌∙◌, arith, add-zero, length-set, get_or-set_same, get_or-set_other, ℤ, pos, ◌+ℤ◌}
use Rattle.std.specs.Prelude.{slice_index, slice_index_or}
use Rattle.std.proofs.Math.Nat.{mul-le-mul_left}
use Rattle.std.proofs.lemmas.Bool.{cases_lt}
use Rattle.vp8_tables.specs.Bounds.{clamped_sample}
use Rattle.transforms.specs.Residuals.{IsAdded, IsRowAdded}

-- a fact of 0 to 3 holds for all below 4
pub below_four : (P : ℕ → Type 0) → P 0 → P 1 → P 2 → P 3 → (k : ℕ) → k < 4 → P k
below_four P at0 at1 at2 at3 zero less = at0
below_four P at0 at1 at2 at3 (suc zero) less = at1
below_four P at0 at1 at2 at3 (suc (suc zero)) less = at2
below_four P at0 at1 at2 at3 (suc (suc (suc zero))) less = at3
below_four P at0 at1 at2 at3 (suc (suc (suc (suc k)))) less = absurd (omega arith)

-- four samples written in sequence
four_set : List ℕ → ℕ → ℕ → ℕ → ℕ → ℕ → List ℕ
four_set old start v0 v1 v2 v3 = set (set (set (set old start v0) (start + 1) v1) (start + 2) v2) (start + 3) v3

length-four : (old : List ℕ) (start v0 v1 v2 v3 : ℕ) → length (four_set old start v0 v1 v2 v3) ≡ length old
unfolding four_set
length-four old start v0 v1 v2 v3 = length-set _ (start + 3) v3 ∙ length-set _ (start + 2) v2 ∙ length-set _ (start + 1) v1 ∙ length-set old start v0

four-other : (old : List ℕ) (start v0 v1 v2 v3 place : ℕ) → (place < start) ⊎ (start + 4 ≤ place) → get_or (four_set old start v0 v1 v2 v3) place 0 ≡ get_or old place 0
unfolding four_set
four-other old start v0 v1 v2 v3 place (inl below) = get_or-set_other _ (start + 3) place v3 0 (omega arith) ∙ get_or-set_other _ (start + 2) place v2 0 (omega arith) ∙ get_or-set_other _ (start + 1) place v1 0 (omega arith) ∙ get_or-set_other old start place v0 0 (omega arith)
four-other old start v0 v1 v2 v3 place (inr above) = get_or-set_other _ (start + 3) place v3 0 (omega arith) ∙ get_or-set_other _ (start + 2) place v2 0 (omega arith) ∙ get_or-set_other _ (start + 1) place v1 0 (omega arith) ∙ get_or-set_other old start place v0 0 (omega arith)

-- a row of four samples, each with its residual
pub row_added : (old : List ℕ) (start : ℕ) (rs : List ℤ) (v0 v1 v2 v3 : ℕ) → start + 4 ≤ length old
    → v0 ≡ clamped_sample (pos (get_or old start 0) +ℤ get_or rs 0 (pos 0)) → v1 ≡ clamped_sample (pos (get_or old (start + 1) 0) +ℤ get_or rs 1 (pos 0)) → v2 ≡ clamped_sample (pos (get_or old (start + 2) 0) +ℤ get_or rs 2 (pos 0)) → v3 ≡ clamped_sample (pos (get_or old (start + 3) 0) +ℤ get_or rs 3 (pos 0))
    → IsRowAdded 4 rs start old (set (set (set (set old start v0) (start + 1) v1) (start + 2) v2) (start + 3) v3)
unfolding four_set
row_added old start rs v0 v1 v2 v3 room is0 is1 is2 is3 =
    let room1 : start + 1 < length (set old start v0) = omega (arith, length-set old start v0) in
    let long1 : length (set (set old start v0) (start + 1) v1) ≡ length old = length-set _ (start + 1) v1 ∙ length-set old start v0 in
    let long2 : length (set (set (set old start v0) (start + 1) v1) (start + 2) v2) ≡ length old = length-set _ (start + 2) v2 ∙ long1 in
    let at0 : get_or (four_set old start v0 v1 v2 v3) start 0 ≡ v0 = get_or-set_other _ (start + 3) start v3 0 (omega arith) ∙ get_or-set_other _ (start + 2) start v2 0 (omega arith) ∙ get_or-set_other _ (start + 1) start v1 0 (omega arith) ∙ get_or-set_same old start v0 0 (omega arith) in
    let at1 : get_or (four_set old start v0 v1 v2 v3) (start + 1) 0 ≡ v1 = get_or-set_other _ (start + 3) (start + 1) v3 0 (omega arith) ∙ get_or-set_other _ (start + 2) (start + 1) v2 0 (omega arith) ∙ get_or-set_same _ (start + 1) v1 0 room1 in
    let at2 : get_or (four_set old start v0 v1 v2 v3) (start + 2) 0 ≡ v2 = get_or-set_other _ (start + 3) (start + 2) v3 0 (omega arith) ∙ get_or-set_same _ (start + 2) v2 0 (omega (arith, long1)) in
    let at3 : get_or (four_set old start v0 v1 v2 v3) (start + 3) 0 ≡ v3 = get_or-set_same _ (start + 3) v3 0 (omega (arith, long2)) in
    let P : ℕ → Type 0 = λ k. get_or (four_set old start v0 v1 v2 v3) (start + k) 0 ≡ clamped_sample (pos (get_or old (start + k) 0) +ℤ slice_index_or rs k (pos 0)) in
    record {
      whole = length-four old start v0 v1 v2 v3;
      each = below_four P (rw (add-zero start) (at0 ∙ is0)) (at1 ∙ is1) (at2 ∙ is2) (at3 ∙ is3);
      others = four-other old start v0 v1 v2 v3;
    }

-- the first n rows have their residuals
pub record RowsAdded (residual : ℕ → ℕ → ℤ) (width stride n : ℕ) (old new : List ℕ) : Type 0 where
  pub whole : length new ≡ length old
  pub each : (column row : ℕ) → column < width → row < n → slice_index new (row * stride + column) ≡ clamped_sample (pos (slice_index old (row * stride + column)) +ℤ residual column row)
  pub others : (column row : ℕ) → column < stride → (width ≤ column) ⊎ (n ≤ row) → slice_index new (row * stride + column) ≡ slice_index old (row * stride + column)

-- no row
pub no_rows : (residual : ℕ → ℕ → ℤ) (width stride : ℕ) (old : List ℕ) → RowsAdded residual width stride 0 old old
no_rows residual width stride old = record { whole = refl; each = λ column row inside below. absurd (omega arith); others = λ column row inside out. refl }

-- an earlier row ends before a later one
row_before : (stride row n : ℕ) → row < n → row * stride + stride ≤ n * stride
row_before stride row n earlier = grind (arith, mul-le-mul_left)

-- a later row begins no earlier
row_behind : (stride row n : ℕ) → n ≤ row → n * stride ≤ row * stride
row_behind stride row n from = grind (arith, mul-le-mul_left)

-- a sample right of a block, or below its row n, is outside that row
outside_row : (width stride n start row column : ℕ) → width ≤ stride → start ≡ n * stride → column < stride → (width ≤ column) ⊎ (n + 1 ≤ row) → (row * stride + column < start) ⊎ (start + width ≤ row * stride + column)
outside_row width stride n start row column wide starts inside (inl right) =
    elim (cases_lt row n) [
      | inl earlier ↦ inl (let apart = row_before stride row n earlier in omega arith)
      | inr from ↦ inr (let apart = row_behind stride row n from in omega arith)
    ]
outside_row width stride n start row column wide starts inside (inr below) = inr (let apart = row_before stride n row (omega arith) in omega arith)

outside_fewer : (width n row column : ℕ) → (width ≤ column) ⊎ (n + 1 ≤ row) → (width ≤ column) ⊎ (n ≤ row)
outside_fewer width n row column (inl right) = inl right
outside_fewer width n row column (inr below) = inr (omega arith)

-- one more row
pub one_more : (residual : ℕ → ℕ → ℤ) (width stride n start : ℕ) (residuals : List ℤ) (old between new : List ℕ) → width ≤ stride → start ≡ n * stride → RowsAdded residual width stride n old between → IsRowAdded width residuals start between new
    → ((column : ℕ) → column < width → slice_index_or residuals column (pos 0) ≡ residual column n) → RowsAdded residual width stride (n + 1) old new
one_more residual width stride n start residuals old between new wide starts before row_is same =
    record {
      whole = row_is.whole ∙ before.whole;
      each = λ column row inside less.
          elim (cases_lt row n) [
            | inl earlier ↦ row_is.others (row * stride + column) (inl (let apart = row_before stride row n earlier in omega arith)) ∙ before.each column row inside earlier
            | inr from ↦
                let is : row ≡ n = omega arith in
                let at : slice_index new (n * stride + column) ≡ clamped_sample (pos (slice_index between (n * stride + column)) +ℤ slice_index_or residuals column (pos 0)) = rw (← starts) (row_is.each column inside) in
                let kept : slice_index between (n * stride + column) ≡ slice_index old (n * stride + column) = before.others column n (omega arith) (inr (omega arith)) in
                rw is (at ∙ ap (λ (k : ℕ). clamped_sample (pos k +ℤ slice_index_or residuals column (pos 0))) kept ∙ ap (λ (r : ℤ). clamped_sample (pos (slice_index old (n * stride + column)) +ℤ r)) (same column inside))
          ];
      others = λ column row inside out. row_is.others (row * stride + column) (outside_row width stride n start row column wide starts inside out) ∙ before.others column row inside (outside_fewer width n row column out);
    }

-- all four rows
pub all_rows : (residual : ℕ → ℕ → ℤ) (width stride : ℕ) (old new : List ℕ) → RowsAdded residual width stride 4 old new → IsAdded residual width stride old new
all_rows residual width stride old new rows = record { whole = rows.whole; each = rows.each; others = rows.others }
