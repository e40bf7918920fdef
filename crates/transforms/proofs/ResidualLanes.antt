-- Lanes of 32 bits after the second pass.
use Rattle.std.proofs.Common.{◌≡◌, ℕ, ◌+◌, ◌-◌, ◌*◌, ◌%◌, ◌<◌, List, [], ◌∷◌, map, refl, ap, sym, ◌∙◌, arith, lit<, ℤ, pos, negsuc, ◌+ℤ◌, ◌-ℤ◌, ◌*ℤ◌, w16, w32, SFits, to_z, of_z}
use Rattle.std.specs.List.{range_with_len}
use Rattle.std.specs.Prelude.{slice_index_or}
use Rattle.std.specs.Int.{int_shr}
use Rattle.std.proofs.lemmas.Int.{ints, to_z-of_z}
use Rattle.vp8_tables.specs.Bounds.{IsWithin}
use Rattle.transforms.specs.Transforms.{by_sine, by_cosine, eighth, dct_pass, dct_column, inverse_dct}
use Rattle.transforms.proofs.Rows.{below_four}
use Rattle.transforms.proofs.Passes.{next_same, column_fits}
use Rattle.transforms.proofs.Bits.{wider, Stand, Stand-plus, Stand-minus, Stand-times, Stand-of, Stand-fits, Stand-same, shifted_fits, sine_product, cosine_product, sine_less}
use Rattle.transforms.proofs.Columns.{sine_factor, cosine_factor, lane}

-- the parts of a pass stay small
sine_within : (x : ℤ) → SFits w16 x → IsWithin 17734 (by_sine x)
unfolding by_sine
sine_within (pos n) fits = (omega (arith, ints, fits.sfits), omega (arith, ints, fits.sfits))
sine_within (negsuc n) fits =
    let product : negsuc n *ℤ pos 35468 ≡ negsuc (35468 * n + 35467) = omega (arith, ints) in
    rw product (omega (arith, ints, fits.sfits), omega (arith, ints, fits.sfits))

cosine_within : (x : ℤ) → SFits w16 x → IsWithin 42814 (by_cosine x)
unfolding by_cosine
cosine_within (pos n) fits = (omega (arith, ints, fits.sfits), omega (arith, ints, fits.sfits))
cosine_within (negsuc n) fits =
    let product : negsuc n *ℤ pos 20091 ≡ negsuc (20091 * n + 20090) = omega (arith, ints) in
    rw product (omega (arith, ints, fits.sfits), omega (arith, ints, fits.sfits))

-- a number of 16 bits, as 32
abbrev pub wide : ℤ → ℕ
wide x = of_z w32 (to_z w16 (of_z w16 x))

pub wide_stands : (x : ℤ) → SFits w16 x → Stand w32 (wide x) x
wide_stands x fits = rw (to_z-of_z w16 x fits) (Stand-of w32 x (wider x fits))

-- it and a part added to it
abbrev pub more_wide : ℕ → ℤ → ℕ
more_wide k x = (wide x + of_z w32 (int_shr (to_z w32 (wide x * k % 4294967296)) 16)) % 4294967296

more_stands : (k : ℕ) (y x : ℤ) → SFits w16 x → Stand w32 k y → SFits w32 (x *ℤ y) → Stand w32 (more_wide k x) (x +ℤ int_shr (x *ℤ y) 16)
more_stands k y x fits factor room =
    let product : to_z w32 (wide x * k % 4294967296) ≡ x *ℤ y = Stand-fits w32 _ _ (Stand-times w32 _ _ x y (wide_stands x fits) factor) room in
    let part : Stand w32 (of_z w32 (int_shr (to_z w32 (wide x * k % 4294967296)) 16)) (int_shr (x *ℤ y) 16) = rw product (Stand-of w32 _ (wider _ (shifted_fits _ room))) in
    Stand-plus w32 _ _ _ _ (wide_stands x fits) part

sine_stands : (x : ℤ) → SFits w16 x → Stand w32 (more_wide 4294937228 x) (by_sine x)
sine_stands x fits = Stand-same w32 _ _ _ (sym (sine_less x)) (more_stands _ _ x fits sine_factor (sine_product x fits))

cosine_stands : (x : ℤ) → SFits w16 x → Stand w32 (more_wide 20091 x) (by_cosine x)
unfolding by_cosine
cosine_stands x fits = more_stands _ _ x fits cosine_factor (cosine_product x fits)

-- the four numbers of a pass, as bits
abbrev pub wide_sum : ℤ → ℤ → ℕ
wide_sum x y = (wide x + wide y) % 4294967296

abbrev pub wide_less : ℤ → ℤ → ℕ
wide_less x y = (wide x + (4294967296 - wide y)) % 4294967296

abbrev pub wide_odd_sum : ℤ → ℤ → ℕ
wide_odd_sum x y = (more_wide 20091 x + more_wide 4294937228 y) % 4294967296

abbrev pub wide_odd_less : ℤ → ℤ → ℕ
wide_odd_less x y = (more_wide 4294937228 x + (4294967296 - more_wide 20091 y)) % 4294967296

-- an eighth of the number of some bits
abbrev pub eighth_of : ℕ → ℤ
eighth_of n = to_z w32 (of_z w32 (int_shr (to_z w32 ((n + 4) % 4294967296)) 3))

eighth_within : (y : ℤ) → IsWithin 126088 y → SFits w16 (int_shr y 3)
eighth_within (pos n) within = record { sfits = omega (arith, ints, within.0, within.1) }
eighth_within (negsuc n) within = record { sfits = omega (arith, ints, within.0, within.1) }

eighth_near : (y : ℤ) → IsWithin 126088 y → IsWithin 16384 (int_shr y 3)
eighth_near (pos n) within = (omega (arith, ints, within.0, within.1), omega (arith, ints, within.0, within.1))
eighth_near (negsuc n) within = (omega (arith, ints, within.0, within.1), omega (arith, ints, within.0, within.1))

-- a result of a pass
record IsPassed (n : ℕ) (z : ℤ) : Type 0 where
  stands : Stand w32 n z
  small : IsWithin 126084 z

four : Stand w32 4 (pos 4)
four = Stand-of w32 (pos 4) (record { sfits = lit< tt })

with_four : (z : ℤ) → IsWithin 126084 z → IsWithin 126088 (z +ℤ pos 4)
with_four z within = (omega (arith, ints, within.0, within.1), omega (arith, ints, within.0, within.1))

within_fits : (z : ℤ) → IsWithin 126088 z → SFits w32 z
within_fits (pos n) within = record { sfits = omega (arith, ints, within.0, within.1) }
within_fits (negsuc n) within = record { sfits = omega (arith, ints, within.0, within.1) }

eighth_fits : (z : ℤ) → IsWithin 126084 z → SFits w16 (eighth z)
unfolding eighth
eighth_fits z within = eighth_within _ (with_four z within)

near_of : (n : ℕ) (z : ℤ) → IsPassed n z → IsWithin 16384 (eighth z)
unfolding eighth
near_of n z passed = eighth_near _ (with_four z passed.small)

eighth_is : (n : ℕ) (z : ℤ) → IsPassed n z → eighth_of n ≡ eighth z
unfolding eighth
eighth_is n z passed =
    let room : SFits w32 (z +ℤ pos 4) = within_fits _ (with_four z passed.small) in
    let sum : to_z w32 ((n + 4) % 4294967296) ≡ z +ℤ pos 4 = Stand-fits w32 _ _ (Stand-plus w32 _ _ _ _ passed.stands four) room in
    ap (λ (y : ℤ). to_z w32 (of_z w32 (int_shr y 3))) sum ∙ to_z-of_z w32 _ (wider _ (eighth_within _ (with_four z passed.small)))

eighth_small : (n : ℕ) (z : ℤ) → IsPassed n z → SFits w16 (eighth_of n)
eighth_small n z passed = rw (eighth_is n z passed) (eighth_fits z passed.small)

eighth_lane : (n : ℕ) (z : ℤ) → IsPassed n z → lane (of_z w16 (eighth_of n)) ≡ eighth z
eighth_lane n z passed =
    let same = to_z-of_z w16 (eighth z) (eighth_fits z passed.small) in
    ap (λ (y : ℤ). lane (of_z w16 y)) (eighth_is n z passed) ∙ ap (λ (y : ℤ). to_z w16 (of_z w16 (to_z w16 (of_z w16 y)))) same ∙ ap (λ (y : ℤ). to_z w16 (of_z w16 y)) same ∙ same

module _ (i0 i1 i2 i3 : ℤ) (fits0 : SFits w16 i0) (fits1 : SFits w16 i1) (fits2 : SFits w16 i2) (fits3 : SFits w16 i3) where
  a_stands : Stand w32 (wide_sum i0 i2) (i0 +ℤ i2)
  a_stands = Stand-plus w32 _ _ _ _ (wide_stands i0 fits0) (wide_stands i2 fits2)

  b_stands : Stand w32 (wide_less i0 i2) (i0 -ℤ i2)
  b_stands = Stand-minus w32 _ _ _ _ (wide_stands i0 fits0) (wide_stands i2 fits2)

  c_stands : Stand w32 (wide_odd_less i1 i3) (by_sine i1 -ℤ by_cosine i3)
  c_stands = Stand-minus w32 _ _ _ _ (sine_stands i1 fits1) (cosine_stands i3 fits3)

  d_stands : Stand w32 (wide_odd_sum i1 i3) (by_cosine i1 +ℤ by_sine i3)
  d_stands = Stand-plus w32 _ _ _ _ (cosine_stands i1 fits1) (sine_stands i3 fits3)

  a_within : IsWithin 65536 (i0 +ℤ i2)
  a_within = (omega (arith, ints, fits0.sfits, fits2.sfits), omega (arith, ints, fits0.sfits, fits2.sfits))

  b_within : IsWithin 65536 (i0 -ℤ i2)
  b_within = (omega (arith, ints, fits0.sfits, fits2.sfits), omega (arith, ints, fits0.sfits, fits2.sfits))

  c_within : IsWithin 60548 (by_sine i1 -ℤ by_cosine i3)
  c_within =
      let s = sine_within i1 fits1 in
      let t = cosine_within i3 fits3 in
      (omega (arith, ints, s.0, s.1, t.0, t.1), omega (arith, ints, s.0, s.1, t.0, t.1))

  d_within : IsWithin 60548 (by_cosine i1 +ℤ by_sine i3)
  d_within =
      let s = cosine_within i1 fits1 in
      let t = sine_within i3 fits3 in
      (omega (arith, ints, s.0, s.1, t.0, t.1), omega (arith, ints, s.0, s.1, t.0, t.1))

sum_within : (x y : ℤ) → IsWithin 65536 x → IsWithin 60548 y → IsWithin 126084 (x +ℤ y)
sum_within x y s t = (omega (arith, ints, s.0, s.1, t.0, t.1), omega (arith, ints, s.0, s.1, t.0, t.1))

less_within : (x y : ℤ) → IsWithin 65536 x → IsWithin 60548 y → IsWithin 126084 (x -ℤ y)
less_within x y s t = (omega (arith, ints, s.0, s.1, t.0, t.1), omega (arith, ints, s.0, s.1, t.0, t.1))

-- the results of the second pass over a row after the first
abbrev pub number0 : List ℤ → ℕ → ℕ
number0 cs row = (wide_sum (dct_column cs 0 row) (dct_column cs 2 row) + wide_odd_sum (dct_column cs 1 row) (dct_column cs 3 row)) % 4294967296

abbrev pub number1 : List ℤ → ℕ → ℕ
number1 cs row = (wide_less (dct_column cs 0 row) (dct_column cs 2 row) + wide_odd_less (dct_column cs 1 row) (dct_column cs 3 row)) % 4294967296

abbrev pub number2 : List ℤ → ℕ → ℕ
number2 cs row = (wide_less (dct_column cs 0 row) (dct_column cs 2 row) + (4294967296 - wide_odd_less (dct_column cs 1 row) (dct_column cs 3 row))) % 4294967296

abbrev pub number3 : List ℤ → ℕ → ℕ
number3 cs row = (wide_sum (dct_column cs 0 row) (dct_column cs 2 row) + (4294967296 - wide_odd_sum (dct_column cs 1 row) (dct_column cs 3 row))) % 4294967296

-- the result of the second pass in a column of a row
abbrev passed : List ℤ → ℕ → ℕ → ℤ
passed cs column row = dct_pass column (dct_column cs 0 row) (dct_column cs 1 row) (dct_column cs 2 row) (dct_column cs 3 row)

passed0 : (cs : List ℤ) (row : ℕ) → IsPassed (number0 cs row) (passed cs 0 row)
unfolding dct_pass
passed0 cs row =
    let f0 = column_fits cs 0 row in
    let f1 = column_fits cs 1 row in
    let f2 = column_fits cs 2 row in
    let f3 = column_fits cs 3 row in
    record { stands = Stand-plus w32 _ _ _ _ (a_stands _ _ _ _ f0 f1 f2 f3) (d_stands _ _ _ _ f0 f1 f2 f3); small = sum_within _ _ (a_within _ _ _ _ f0 f1 f2 f3) (d_within _ _ _ _ f0 f1 f2 f3) }

passed1 : (cs : List ℤ) (row : ℕ) → IsPassed (number1 cs row) (passed cs 1 row)
unfolding dct_pass
passed1 cs row =
    let f0 = column_fits cs 0 row in
    let f1 = column_fits cs 1 row in
    let f2 = column_fits cs 2 row in
    let f3 = column_fits cs 3 row in
    record { stands = Stand-plus w32 _ _ _ _ (b_stands _ _ _ _ f0 f1 f2 f3) (c_stands _ _ _ _ f0 f1 f2 f3); small = sum_within _ _ (b_within _ _ _ _ f0 f1 f2 f3) (c_within _ _ _ _ f0 f1 f2 f3) }

passed2 : (cs : List ℤ) (row : ℕ) → IsPassed (number2 cs row) (passed cs 2 row)
unfolding dct_pass
passed2 cs row =
    let f0 = column_fits cs 0 row in
    let f1 = column_fits cs 1 row in
    let f2 = column_fits cs 2 row in
    let f3 = column_fits cs 3 row in
    record { stands = Stand-minus w32 _ _ _ _ (b_stands _ _ _ _ f0 f1 f2 f3) (c_stands _ _ _ _ f0 f1 f2 f3); small = less_within _ _ (b_within _ _ _ _ f0 f1 f2 f3) (c_within _ _ _ _ f0 f1 f2 f3) }

passed3 : (cs : List ℤ) (row : ℕ) → IsPassed (number3 cs row) (passed cs 3 row)
unfolding dct_pass
passed3 cs row =
    let f0 = column_fits cs 0 row in
    let f1 = column_fits cs 1 row in
    let f2 = column_fits cs 2 row in
    let f3 = column_fits cs 3 row in
    record { stands = Stand-minus w32 _ _ _ _ (a_stands _ _ _ _ f0 f1 f2 f3) (d_stands _ _ _ _ f0 f1 f2 f3); small = less_within _ _ (a_within _ _ _ _ f0 f1 f2 f3) (d_within _ _ _ _ f0 f1 f2 f3) }

-- each of their eighths has 16 bits
pub small0 : (cs : List ℤ) (row : ℕ) → SFits w16 (eighth_of (number0 cs row))
small0 cs row = eighth_small _ _ (passed0 cs row)

pub small1 : (cs : List ℤ) (row : ℕ) → SFits w16 (eighth_of (number1 cs row))
small1 cs row = eighth_small _ _ (passed1 cs row)

pub small2 : (cs : List ℤ) (row : ℕ) → SFits w16 (eighth_of (number2 cs row))
small2 cs row = eighth_small _ _ (passed2 cs row)

pub small3 : (cs : List ℤ) (row : ℕ) → SFits w16 (eighth_of (number3 cs row))
small3 cs row = eighth_small _ _ (passed3 cs row)

-- the residuals of a row
pub row_lanes : (cs : List ℤ) (row : ℕ)
    → lane (of_z w16 (eighth_of (number0 cs row))) ∷ lane (of_z w16 (eighth_of (number1 cs row))) ∷ lane (of_z w16 (eighth_of (number2 cs row))) ∷ lane (of_z w16 (eighth_of (number3 cs row))) ∷ []
    ≡ map (λ column. inverse_dct cs column row) (range_with_len 0 4)
unfolding inverse_dct
row_lanes cs row = next_same (eighth_lane _ _ (passed0 cs row)) (next_same (eighth_lane _ _ (passed1 cs row)) (next_same (eighth_lane _ _ (passed2 cs row)) (next_same (eighth_lane _ _ (passed3 cs row)) refl)))

-- a residual is small enough for its sum with a sample
pub residual_within : (cs : List ℤ) (row column : ℕ) → column < 4 → IsWithin 16384 (inverse_dct cs column row)
unfolding inverse_dct
residual_within cs row = below_four (λ column. IsWithin 16384 (inverse_dct cs column row)) (near_of _ _ (passed0 cs row)) (near_of _ _ (passed1 cs row)) (near_of _ _ (passed2 cs row)) (near_of _ _ (passed3 cs row))

-- the same of a list of a row's residuals
abbrev pub IsRow : List ℤ → ℕ → List ℤ → Type 0
IsRow cs row residuals = residuals ≡ map (λ column. inverse_dct cs column row) (range_with_len 0 4)

pub row_at : (cs : List ℤ) (row : ℕ) (residuals : List ℤ) → IsRow cs row residuals → (column : ℕ) → column < 4 → slice_index_or residuals column (pos 0) ≡ inverse_dct cs column row
row_at cs row residuals is = rw is (below_four (λ column. slice_index_or (map (λ column. inverse_dct cs column row) (range_with_len 0 4)) column (pos 0) ≡ inverse_dct cs column row) refl refl refl refl)

pub row_small : (cs : List ℤ) (row : ℕ) (residuals : List ℤ) → IsRow cs row residuals → (column : ℕ) → column < 4 → IsWithin 16384 (slice_index_or residuals column (pos 0))
row_small cs row residuals is column inside = rw (row_at cs row residuals is column inside) (residual_within cs row column inside)
