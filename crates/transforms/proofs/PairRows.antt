-- Rows of the residuals of two blocks next to each other.
use Rattle.std.specs.List.{range_with_len}
use Rattle.std.specs.Prelude.{slice_index_or}
use Rattle.std.proofs.Common.{◌≡◌, ℕ, ◌/◌, ◌%◌, ◌<◌, List, [], ◌∷◌, map, refl, ap, ◌∙◌, arith, ℤ, pos, negsuc, w16, SFits}
use Rattle.std.proofs.lemmas.Int.{ints}
use Rattle.std.proofs.lemmas.List.FromFn.{get_or-map-range_with_len}
use lib.Lanes.{Each1}
use Rattle.vp8_tables.specs.Bounds.{IsWithin}
use Rattle.transforms.specs.Transforms.{inverse_dct}
use Rattle.transforms.specs.Residuals.{pair_residual}
use Rattle.transforms.specs.Pairs.{pair_column, residual_lanes}
use Rattle.transforms.proofs.Passes.{column_fits}
use Rattle.transforms.proofs.ResidualLanes.{residual_within}
use Rattle.transforms.proofs.PairLanes.{kept, passed_on}

column_fit : (f s : List ℤ) (k : ℕ) → Each1 (SFits w16) (pair_column f s k)
column_fit f s k = (column_fits f k 0, (column_fits f k 1, (column_fits f k 2, (column_fits f k 3, (column_fits s k 0, (column_fits s k 1, (column_fits s k 2, (column_fits s k 3, tt))))))))

-- a residual is small
pub pair_within : (f s : List ℤ) (column row : ℕ) → IsWithin 16384 (pair_residual f s column row)
unfolding pair_residual
pair_within f s column row = residual_within (slice_index_or (f ∷ s ∷ []) (column / 4) []) row (column % 4) (omega arith)

within_fits : (z : ℤ) → IsWithin 16384 z → SFits w16 z
within_fits (pos n) within = record { sfits = omega (arith, ints, within.0, within.1) }
within_fits (negsuc n) within = record { sfits = omega (arith, ints, within.0, within.1) }

pair_fits : (f s : List ℤ) (column row : ℕ) → SFits w16 (pair_residual f s column row)
pair_fits f s column row = within_fits _ (pair_within f s column row)

abbrev in_row : List ℤ → List ℤ → ℕ → List ℤ
in_row f s row = map (λ column. pair_residual f s column row) (range_with_len 0 8)

row_fits : (f s : List ℤ) (row : ℕ) → Each1 (SFits w16) (in_row f s row)
row_fits f s row = (pair_fits f s 0 row, (pair_fits f s 1 row, (pair_fits f s 2 row, (pair_fits f s 3 row, (pair_fits f s 4 row, (pair_fits f s 5 row, (pair_fits f s 6 row, (pair_fits f s 7 row, tt))))))))

abbrev of_columns : ℕ → List ℤ → List ℤ → List ℤ
of_columns row f s = residual_lanes row (pair_column f s 0) (pair_column f s 1) (pair_column f s 2) (pair_column f s 3)

first_row : (f s : List ℤ) → of_columns 0 f s ≡ in_row f s 0
unfolding inverse_dct pair_residual
first_row f s = refl

second_row : (f s : List ℤ) → of_columns 1 f s ≡ in_row f s 1
unfolding inverse_dct pair_residual
second_row f s = refl

third_row : (f s : List ℤ) → of_columns 2 f s ≡ in_row f s 2
unfolding inverse_dct pair_residual
third_row f s = refl

fourth_row : (f s : List ℤ) → of_columns 3 f s ≡ in_row f s 3
unfolding inverse_dct pair_residual
fourth_row f s = refl

-- the four columns
pub record AreColumnsOf (f s i0 i1 i2 i3 : List ℤ) : Type 0 where
  pub is0 : i0 ≡ pair_column f s 0
  pub is1 : i1 ≡ pair_column f s 1
  pub is2 : i2 ≡ pair_column f s 2
  pub is3 : i3 ≡ pair_column f s 3

module _ (f s i0 i1 i2 i3 t : List ℤ) (are : AreColumnsOf f s i0 i1 i2 i3) where
  row_is : (row : ℕ) → of_columns row f s ≡ in_row f s row → t ≡ residual_lanes row (passed_on i0) (passed_on i1) (passed_on i2) (passed_on i3) → (column : ℕ) → column < 8 → slice_index_or (passed_on t) column (pos 0) ≡ pair_residual f s column row
  row_is row whole is column inside =
      let k0 : passed_on i0 ≡ pair_column f s 0 = rw are.is0 (kept (pair_column f s 0) (column_fit f s 0)) in
      let k1 : passed_on i1 ≡ pair_column f s 1 = rw are.is1 (kept (pair_column f s 1) (column_fit f s 1)) in
      let k2 : passed_on i2 ≡ pair_column f s 2 = rw are.is2 (kept (pair_column f s 2) (column_fit f s 2)) in
      let k3 : passed_on i3 ≡ pair_column f s 3 = rw are.is3 (kept (pair_column f s 3) (column_fit f s 3)) in
      let known : t ≡ in_row f s row = is ∙ ap (λ (l : List ℤ). residual_lanes row l (passed_on i1) (passed_on i2) (passed_on i3)) k0 ∙ ap (λ (l : List ℤ). residual_lanes row (pair_column f s 0) l (passed_on i2) (passed_on i3)) k1
      ∙ ap (λ (l : List ℤ). residual_lanes row (pair_column f s 0) (pair_column f s 1) l (passed_on i3)) k2 ∙ ap (λ (l : List ℤ). residual_lanes row (pair_column f s 0) (pair_column f s 1) (pair_column f s 2) l) k3 ∙ whole in
      let same : passed_on t ≡ in_row f s row = rw known (kept (in_row f s row) (row_fits f s row)) in
      ap (λ (l : List ℤ). slice_index_or l column (pos 0)) same ∙ get_or-map-range_with_len (λ column. pair_residual f s column row) 0 8 column column (pos 0) inside (omega arith)

  pub row0 : t ≡ residual_lanes 0 (passed_on i0) (passed_on i1) (passed_on i2) (passed_on i3) → (column : ℕ) → column < 8 → slice_index_or (passed_on t) column (pos 0) ≡ pair_residual f s column 0
  row0 = row_is 0 (first_row f s)

  pub row1 : t ≡ residual_lanes 1 (passed_on i0) (passed_on i1) (passed_on i2) (passed_on i3) → (column : ℕ) → column < 8 → slice_index_or (passed_on t) column (pos 0) ≡ pair_residual f s column 1
  row1 = row_is 1 (second_row f s)

  pub row2 : t ≡ residual_lanes 2 (passed_on i0) (passed_on i1) (passed_on i2) (passed_on i3) → (column : ℕ) → column < 8 → slice_index_or (passed_on t) column (pos 0) ≡ pair_residual f s column 2
  row2 = row_is 2 (third_row f s)

  pub row3 : t ≡ residual_lanes 3 (passed_on i0) (passed_on i1) (passed_on i2) (passed_on i3) → (column : ℕ) → column < 8 → slice_index_or (passed_on t) column (pos 0) ≡ pair_residual f s column 3
  row3 = row_is 3 (fourth_row f s)
