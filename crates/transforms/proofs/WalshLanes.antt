-- Lanes after the passes of the inverse WHT.
use Rattle.std.proofs.Common.{◌≡◌, ℕ, ◌+◌, ◌-◌, ◌%◌, List, [], ◌∷◌, map, refl, ap, ◌∙◌, arith, lit<, ℤ, pos, negsuc, ◌+ℤ◌, ◌-ℤ◌, w16, w32, SFits, to_z, of_z}
use Rattle.std.specs.List.{range_with_len}
use Rattle.std.specs.Int.{int_shr}
use Rattle.std.proofs.lemmas.Int.{ints, to_z-of_z, SFits-int_wrap}
use Rattle.vp8_tables.specs.Bounds.{IsWithin}
use Rattle.transforms.specs.Transforms.{reduced, coefficient, wht_pass, wht_column, inverse_wht_at}
use Rattle.transforms.proofs.Passes.{next_same}
use Rattle.transforms.proofs.Bits.{wider, Stand, Stand-plus, Stand-minus, Stand-of, Stand-fits}
use Rattle.transforms.proofs.Columns.{lane, lane_is, sum_bits, less_bits}
use Rattle.transforms.proofs.ResidualLanes.{wide_stands, wide_sum, wide_less}

module _ (i0 i1 i2 i3 : ℤ) (fits0 : SFits w16 i0) (fits1 : SFits w16 i1) (fits2 : SFits w16 i2) (fits3 : SFits w16 i3) where
  a_stands : Stand w16 (sum_bits i0 i3) (i0 +ℤ i3)
  a_stands = Stand-plus w16 _ _ _ _ (Stand-of w16 i0 fits0) (Stand-of w16 i3 fits3)

  b_stands : Stand w16 (sum_bits i1 i2) (i1 +ℤ i2)
  b_stands = Stand-plus w16 _ _ _ _ (Stand-of w16 i1 fits1) (Stand-of w16 i2 fits2)

  c_stands : Stand w16 (less_bits i1 i2) (i1 -ℤ i2)
  c_stands = Stand-minus w16 _ _ _ _ (Stand-of w16 i1 fits1) (Stand-of w16 i2 fits2)

  d_stands : Stand w16 (less_bits i0 i3) (i0 -ℤ i3)
  d_stands = Stand-minus w16 _ _ _ _ (Stand-of w16 i0 fits0) (Stand-of w16 i3 fits3)

  pub pass_lane0 : lane ((sum_bits i0 i3 + sum_bits i1 i2) % 65536) ≡ reduced (wht_pass 0 i0 i1 i2 i3)
  unfolding wht_pass
  pass_lane0 = lane_is _ _ (Stand-plus w16 _ _ _ _ a_stands b_stands)

  pub pass_lane1 : lane ((less_bits i1 i2 + less_bits i0 i3) % 65536) ≡ reduced (wht_pass 1 i0 i1 i2 i3)
  unfolding wht_pass
  pass_lane1 = lane_is _ _ (Stand-plus w16 _ _ _ _ c_stands d_stands)

  pub pass_lane2 : lane ((sum_bits i0 i3 + (65536 - sum_bits i1 i2)) % 65536) ≡ reduced (wht_pass 2 i0 i1 i2 i3)
  unfolding wht_pass
  pass_lane2 = lane_is _ _ (Stand-minus w16 _ _ _ _ a_stands b_stands)

  pub pass_lane3 : lane ((less_bits i0 i3 + (65536 - less_bits i1 i2)) % 65536) ≡ reduced (wht_pass 3 i0 i1 i2 i3)
  unfolding wht_pass
  pass_lane3 = lane_is _ _ (Stand-minus w16 _ _ _ _ d_stands c_stands)

-- the lanes of a column
pub wht_column_lanes : (cs : List ℤ) (column : ℕ) → SFits w16 (coefficient cs column 0) → SFits w16 (coefficient cs column 1) → SFits w16 (coefficient cs column 2) → SFits w16 (coefficient cs column 3)
    → lane ((sum_bits (coefficient cs column 0) (coefficient cs column 3) + sum_bits (coefficient cs column 1) (coefficient cs column 2)) % 65536)
    ∷ lane ((less_bits (coefficient cs column 1) (coefficient cs column 2) + less_bits (coefficient cs column 0) (coefficient cs column 3)) % 65536)
    ∷ lane ((sum_bits (coefficient cs column 0) (coefficient cs column 3) + (65536 - sum_bits (coefficient cs column 1) (coefficient cs column 2))) % 65536)
    ∷ lane ((less_bits (coefficient cs column 0) (coefficient cs column 3) + (65536 - less_bits (coefficient cs column 1) (coefficient cs column 2))) % 65536) ∷ []
    ≡ map (wht_column cs column) (range_with_len 0 4)
unfolding wht_column
wht_column_lanes cs column f0 f1 f2 f3 = next_same (pass_lane0 _ _ _ _ f0 f1 f2 f3) (next_same (pass_lane1 _ _ _ _ f0 f1 f2 f3) (next_same (pass_lane2 _ _ _ _ f0 f1 f2 f3) (next_same (pass_lane3 _ _ _ _ f0 f1 f2 f3) refl)))

-- an eighth of the number of some bits, with 3 added before
abbrev pub part_of : ℕ → ℤ
part_of n = to_z w32 (of_z w32 (int_shr (to_z w32 ((n + 3) % 4294967296)) 3))

-- a result of the second pass
record IsPassed (n : ℕ) (z : ℤ) : Type 0 where
  stands : Stand w32 n z
  small : IsWithin 131072 z

three : Stand w32 3 (pos 3)
three = Stand-of w32 (pos 3) (record { sfits = lit< tt })

with_half : (z : ℤ) → IsWithin 131072 z → IsWithin 131075 (z +ℤ pos 3)
with_half z within = (omega (arith, ints, within.0, within.1), omega (arith, ints, within.0, within.1))

within_fits : (z : ℤ) → IsWithin 131075 z → SFits w32 z
within_fits (pos n) within = record { sfits = omega (arith, ints, within.0, within.1) }
within_fits (negsuc n) within = record { sfits = omega (arith, ints, within.0, within.1) }

shifted_fits : (z : ℤ) → IsWithin 131075 z → SFits w16 (int_shr z 3)
shifted_fits (pos n) within = record { sfits = omega (arith, ints, within.0, within.1) }
shifted_fits (negsuc n) within = record { sfits = omega (arith, ints, within.0, within.1) }

part_is : (n : ℕ) (z : ℤ) → IsPassed n z → part_of n ≡ int_shr (z +ℤ pos 3) 3
part_is n z passed =
    let near = with_half z passed.small in
    let sum : to_z w32 ((n + 3) % 4294967296) ≡ z +ℤ pos 3 = Stand-fits w32 _ _ (Stand-plus w32 _ _ _ _ passed.stands three) (within_fits _ near) in
    ap (λ (y : ℤ). to_z w32 (of_z w32 (int_shr y 3))) sum ∙ to_z-of_z w32 _ (wider _ (shifted_fits _ near))

part_small : (n : ℕ) (z : ℤ) → IsPassed n z → SFits w16 (part_of n)
part_small n z passed = rw (part_is n z passed) (shifted_fits _ (with_half z passed.small))

-- a lane that is read from an array
abbrev pub lane_read : ℕ → ℤ
lane_read n = to_z w16 (of_z w16 (lane (of_z w16 (part_of n))))

part_lane : (n : ℕ) (z : ℤ) → IsPassed n z → lane_read n ≡ int_shr (z +ℤ pos 3) 3
part_lane n z passed =
    let same = to_z-of_z w16 (int_shr (z +ℤ pos 3) 3) (shifted_fits _ (with_half z passed.small)) in
    ap (λ (y : ℤ). to_z w16 (of_z w16 (lane (of_z w16 y)))) (part_is n z passed) ∙ ap (λ (y : ℤ). to_z w16 (of_z w16 (to_z w16 (of_z w16 (to_z w16 (of_z w16 y)))))) same ∙ ap (λ (y : ℤ). to_z w16 (of_z w16 (to_z w16 (of_z w16 y)))) same ∙ ap (λ (y : ℤ). to_z w16 (of_z w16 y)) same ∙ same

wht_fits : (cs : List ℤ) (column row : ℕ) → SFits w16 (wht_column cs column row)
unfolding wht_column
wht_fits cs column row = SFits-int_wrap w16 _

sum_within : (x y : ℤ) → SFits w16 x → SFits w16 y → IsWithin 65536 (x +ℤ y)
sum_within x y f g = (omega (arith, ints, f.sfits, g.sfits), omega (arith, ints, f.sfits, g.sfits))

less_within : (x y : ℤ) → SFits w16 x → SFits w16 y → IsWithin 65536 (x -ℤ y)
less_within x y f g = (omega (arith, ints, f.sfits, g.sfits), omega (arith, ints, f.sfits, g.sfits))

both_within : (x y : ℤ) → IsWithin 65536 x → IsWithin 65536 y → IsWithin 131072 (x +ℤ y)
both_within x y s t = (omega (arith, ints, s.0, s.1, t.0, t.1), omega (arith, ints, s.0, s.1, t.0, t.1))

rest_within : (x y : ℤ) → IsWithin 65536 x → IsWithin 65536 y → IsWithin 131072 (x -ℤ y)
rest_within x y s t = (omega (arith, ints, s.0, s.1, t.0, t.1), omega (arith, ints, s.0, s.1, t.0, t.1))

-- the results of the second pass over a row after the first
abbrev pub walsh0 : List ℤ → ℕ → ℕ
walsh0 cs row = (wide_sum (wht_column cs 0 row) (wht_column cs 3 row) + wide_sum (wht_column cs 1 row) (wht_column cs 2 row)) % 4294967296

abbrev pub walsh1 : List ℤ → ℕ → ℕ
walsh1 cs row = (wide_less (wht_column cs 1 row) (wht_column cs 2 row) + wide_less (wht_column cs 0 row) (wht_column cs 3 row)) % 4294967296

abbrev pub walsh2 : List ℤ → ℕ → ℕ
walsh2 cs row = (wide_sum (wht_column cs 0 row) (wht_column cs 3 row) + (4294967296 - wide_sum (wht_column cs 1 row) (wht_column cs 2 row))) % 4294967296

abbrev pub walsh3 : List ℤ → ℕ → ℕ
walsh3 cs row = (wide_less (wht_column cs 0 row) (wht_column cs 3 row) + (4294967296 - wide_less (wht_column cs 1 row) (wht_column cs 2 row))) % 4294967296

-- the result of the second pass in a column of a row
abbrev passed : List ℤ → ℕ → ℕ → ℤ
passed cs column row = wht_pass column (wht_column cs 0 row) (wht_column cs 1 row) (wht_column cs 2 row) (wht_column cs 3 row)

module _ (cs : List ℤ) (row : ℕ) where
  f : (column : ℕ) → SFits w16 (wht_column cs column row)
  f column = wht_fits cs column row

  wide_plus : (j k : ℕ) → Stand w32 (wide_sum (wht_column cs j row) (wht_column cs k row)) (wht_column cs j row +ℤ wht_column cs k row)
  wide_plus j k = Stand-plus w32 _ _ _ _ (wide_stands _ (f j)) (wide_stands _ (f k))

  wide_minus : (j k : ℕ) → Stand w32 (wide_less (wht_column cs j row) (wht_column cs k row)) (wht_column cs j row -ℤ wht_column cs k row)
  wide_minus j k = Stand-minus w32 _ _ _ _ (wide_stands _ (f j)) (wide_stands _ (f k))

  passed0 : IsPassed (walsh0 cs row) (passed cs 0 row)
  unfolding wht_pass
  passed0 = record { stands = Stand-plus w32 _ _ _ _ (wide_plus 0 3) (wide_plus 1 2); small = both_within _ _ (sum_within _ _ (f 0) (f 3)) (sum_within _ _ (f 1) (f 2)) }

  passed1 : IsPassed (walsh1 cs row) (passed cs 1 row)
  unfolding wht_pass
  passed1 = record { stands = Stand-plus w32 _ _ _ _ (wide_minus 1 2) (wide_minus 0 3); small = both_within _ _ (less_within _ _ (f 1) (f 2)) (less_within _ _ (f 0) (f 3)) }

  passed2 : IsPassed (walsh2 cs row) (passed cs 2 row)
  unfolding wht_pass
  passed2 = record { stands = Stand-minus w32 _ _ _ _ (wide_plus 0 3) (wide_plus 1 2); small = rest_within _ _ (sum_within _ _ (f 0) (f 3)) (sum_within _ _ (f 1) (f 2)) }

  passed3 : IsPassed (walsh3 cs row) (passed cs 3 row)
  unfolding wht_pass
  passed3 = record { stands = Stand-minus w32 _ _ _ _ (wide_minus 0 3) (wide_minus 1 2); small = rest_within _ _ (less_within _ _ (f 0) (f 3)) (less_within _ _ (f 1) (f 2)) }

  -- each of their eighths has 16 bits
  pub walsh_small0 : SFits w16 (part_of (walsh0 cs row))
  walsh_small0 = part_small _ _ passed0

  pub walsh_small1 : SFits w16 (part_of (walsh1 cs row))
  walsh_small1 = part_small _ _ passed1

  pub walsh_small2 : SFits w16 (part_of (walsh2 cs row))
  walsh_small2 = part_small _ _ passed2

  pub walsh_small3 : SFits w16 (part_of (walsh3 cs row))
  walsh_small3 = part_small _ _ passed3

  -- the numbers of a row, before others
  pub walsh_row : {xs ys : List ℤ} → xs ≡ ys
      → lane_read (walsh0 cs row) ∷ lane_read (walsh1 cs row) ∷ lane_read (walsh2 cs row) ∷ lane_read (walsh3 cs row) ∷ xs
      ≡ inverse_wht_at cs 0 row ∷ inverse_wht_at cs 1 row ∷ inverse_wht_at cs 2 row ∷ inverse_wht_at cs 3 row ∷ ys
  unfolding inverse_wht_at
  walsh_row rest = next_same (part_lane _ _ passed0) (next_same (part_lane _ _ passed1) (next_same (part_lane _ _ passed2) (next_same (part_lane _ _ passed3) rest)))
