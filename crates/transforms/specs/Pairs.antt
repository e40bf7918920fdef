-- Two blocks next to each other, in eight lanes.
use Rattle.std.specs.List.{range_with_len}
use Rattle.std.specs.Prelude.{ℕ, ◌+◌, ◌<◌, List, [], ◌∷◌, ◌++◌, map, slice_index_or, ℤ, pos, negsuc, ◌≤ℤ◌, FitsSigned}
use Rattle.std.specs.Int.{w16}
use Rattle.std.specs.Simd.Lanes.{Each1}
use Rattle.transforms.specs.Transforms.{reduced, coefficient, dct_pass, dct_column, eighth}

-- a row of the coefficients of both, the blocks alternating
abbrev pub pair_row : List ℤ → List ℤ → ℕ → List ℤ
pair_row first second row =
    coefficient first 0 row ∷ coefficient second 0 row ∷ coefficient first 1 row ∷ coefficient second 1 row
    ∷ coefficient first 2 row ∷ coefficient second 2 row ∷ coefficient first 3 row ∷ coefficient second 3 row ∷ []

-- a column of both after the first pass: its rows in the first block, and those in the second
abbrev pub pair_column : List ℤ → List ℤ → ℕ → List ℤ
pair_column first second column = map (dct_column first column) (range_with_len 0 4) ++ map (dct_column second column) (range_with_len 0 4)

-- the numbers in lanes of 16 bits
abbrev pub AreLanes : List ℤ → Type 0
AreLanes lanes = Each1 (FitsSigned w16) lanes

-- number n of the results of a pass over the numbers in each lane
abbrev pub passed_lanes : ℕ → List ℤ → List ℤ → List ℤ → List ℤ → List ℤ
passed_lanes n [] v1 v2 v3 = []
passed_lanes n (x0 ∷ v0) [] v2 v3 = []
passed_lanes n (x0 ∷ v0) (x1 ∷ v1) [] v3 = []
passed_lanes n (x0 ∷ v0) (x1 ∷ v1) (x2 ∷ v2) [] = []
passed_lanes n (x0 ∷ v0) (x1 ∷ v1) (x2 ∷ v2) (x3 ∷ v3) = reduced (dct_pass n x0 x1 x2 x3) ∷ passed_lanes n v0 v1 v2 v3

-- lane m of each of four vectors, and lane n of each
abbrev pub lanes_of : ℕ → ℕ → List ℤ → List ℤ → List ℤ → List ℤ → List ℤ
lanes_of m n v0 v1 v2 v3 =
    slice_index_or v0 m (pos 0) ∷ slice_index_or v1 m (pos 0) ∷ slice_index_or v2 m (pos 0) ∷ slice_index_or v3 m (pos 0)
    ∷ slice_index_or v0 n (pos 0) ∷ slice_index_or v1 n (pos 0) ∷ slice_index_or v2 n (pos 0) ∷ slice_index_or v3 n (pos 0) ∷ []

-- the residual in a column, if each lane has the four numbers of a row after the first pass
abbrev pub residual_in : ℕ → List ℤ → List ℤ → List ℤ → List ℤ → ℕ → ℤ
residual_in column v0 v1 v2 v3 lane = eighth (dct_pass column (slice_index_or v0 lane (pos 0)) (slice_index_or v1 lane (pos 0)) (slice_index_or v2 lane (pos 0)) (slice_index_or v3 lane (pos 0)))

-- the residuals of a row of both blocks, whose numbers are in this lane and in the fourth after it
abbrev pub residual_lanes : ℕ → List ℤ → List ℤ → List ℤ → List ℤ → List ℤ
residual_lanes row v0 v1 v2 v3 = map (λ column. residual_in column v0 v1 v2 v3 row) (range_with_len 0 4) ++ map (λ column. residual_in column v0 v1 v2 v3 (4 + row)) (range_with_len 0 4)

-- each lane lies within -8,192 to 8,191: no sum of the second pass leaves 16 bits
abbrev pub AreSmall : List ℤ → Type 0
AreSmall lanes = (k : ℕ) → k < 8 → (negsuc 8191 ≤ℤ slice_index_or lanes k (pos 0)) × (slice_index_or lanes k (pos 0) ≤ℤ pos 8191)
