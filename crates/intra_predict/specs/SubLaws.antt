-- Properties of the formulas of the sub block modes (RFC 6386, section 12.3).
use Rattle.std.specs.Prelude.{◌≡◌, ℕ, ◌+◌, ◌<◌, List, [], ◌∷◌}
use Rattle.intra_predict.specs.declared.modes.SubMode.{SubMode}
use Rattle.intra_predict.specs.SubSample.{sub_sample}

-- a sample repeats `columns` further right and `rows` further down
abbrev pub GoesRight : SubMode → ℕ → ℕ → Type 0
GoesRight mode columns rows =
    (left above : List ℕ) (corner column row : ℕ) → column + columns < 4 → row + rows < 4 →
    sub_sample mode left corner above (column + columns) (row + rows) ≡ sub_sample mode left corner above column row

-- a sample repeats `columns` further left and `rows` further down
abbrev pub GoesLeft : SubMode → ℕ → ℕ → Type 0
GoesLeft mode columns rows =
    (left above : List ℕ) (corner column row : ℕ) → column + columns < 4 → row + rows < 4 →
    sub_sample mode left corner above column (row + rows) ≡ sub_sample mode left corner above (column + columns) row

-- the four samples of a row
abbrev pub row_of : (ℕ → ℕ → ℕ) → ℕ → List ℕ
row_of sample row = sample 0 row ∷ sample 1 row ∷ sample 2 row ∷ sample 3 row ∷ []

-- rows of a mode when the samples to the left are 7, 20, 4, 100, the corner is 40, and those above are 60, 13, 90, 200, 31, 8, 5, 251
abbrev pub worked_row : SubMode → ℕ → List ℕ
worked_row mode row = row_of (sub_sample mode (7 ∷ 20 ∷ 4 ∷ 100 ∷ []) 40 (60 ∷ 13 ∷ 90 ∷ 200 ∷ 31 ∷ 8 ∷ 5 ∷ 251 ∷ [])) row
