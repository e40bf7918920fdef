-- Lanes of 16 bits after the first pass.
use Rattle.std.proofs.Common.{◌≡◌, ℕ, ◌+◌, ◌-◌, ◌*◌, ◌%◌, List, [], ◌∷◌, map, refl, ap, sym, ◌∙◌, lit<, ℤ, pos, negsuc, ◌+ℤ◌, ◌-ℤ◌, ◌*ℤ◌, w16, w32, SFits, to_z, of_z}
use Rattle.std.specs.List.{range_with_len}
use Rattle.std.specs.Int.{int_shr}
use Rattle.std.proofs.lemmas.Int.{to_z-of_z, of_z-to_z}
use Rattle.transforms.specs.Transforms.{reduced, coefficient, by_sine, by_cosine, dct_pass, dct_column}
use Rattle.transforms.proofs.Passes.{next_same}
use Rattle.transforms.proofs.Bits.{wider, Stand, Stand-plus, Stand-minus, Stand-times, Stand-of, Stand-fits, Stand-same, shifted_fits, sine_product, cosine_product, sine_less}

-- the factors, as bits
pub sine_factor : Stand w32 4294937228 (negsuc 30067)
sine_factor = Stand-of w32 (negsuc 30067) (record { sfits = lit< tt })

pub cosine_factor : Stand w32 20091 (pos 20091)
cosine_factor = Stand-of w32 (pos 20091) (record { sfits = lit< tt })

-- a product by the bits k, in 65,536ths
abbrev pub shifted : ℕ → ℤ → ℤ
shifted k x = to_z w32 (of_z w32 (int_shr (to_z w32 (of_z w32 (to_z w16 (of_z w16 x)) * k % 4294967296)) 16))

pub shifted_is : (k : ℕ) (y x : ℤ) → SFits w16 x → Stand w32 k y → SFits w32 (x *ℤ y) → shifted k x ≡ int_shr (x *ℤ y) 16
shifted_is k y x fits factor room =
    let product : to_z w32 (of_z w32 x * k % 4294967296) ≡ x *ℤ y = Stand-fits w32 _ _ (Stand-times w32 _ _ x y (Stand-of w32 x (wider x fits)) factor) room in
    ap (λ (z : ℤ). to_z w32 (of_z w32 (int_shr (to_z w32 (of_z w32 z * k % 4294967296)) 16))) (to_z-of_z w16 x fits) ∙ ap (λ (z : ℤ). to_z w32 (of_z w32 (int_shr z 16))) product ∙ to_z-of_z w32 _ (wider _ (shifted_fits _ room))

pub shifted_small : (k : ℕ) (y x : ℤ) → SFits w16 x → Stand w32 k y → SFits w32 (x *ℤ y) → SFits w16 (shifted k x)
shifted_small k y x fits factor room = rw (shifted_is k y x fits factor room) (shifted_fits _ room)

pub cosine_small : (x : ℤ) → SFits w16 x → SFits w16 (shifted 20091 x)
cosine_small x fits = shifted_small _ _ x fits cosine_factor (cosine_product x fits)

-- a number and the part added to it
abbrev pub more_bits : ℕ → ℤ → ℕ
more_bits k x = (of_z w16 x + of_z w16 (shifted k x)) % 65536

more_stands : (k : ℕ) (y x : ℤ) → SFits w16 x → Stand w32 k y → SFits w32 (x *ℤ y) → Stand w16 (more_bits k x) (x +ℤ int_shr (x *ℤ y) 16)
more_stands k y x fits factor room =
    let part : Stand w16 (of_z w16 (shifted k x)) (int_shr (x *ℤ y) 16) = rw (shifted_is k y x fits factor room) (Stand-of w16 _ (shifted_fits _ room)) in
    Stand-plus w16 _ _ _ _ (Stand-of w16 x fits) part

pub sine_stands : (x : ℤ) → SFits w16 x → Stand w16 (more_bits 4294937228 x) (by_sine x)
sine_stands x fits = Stand-same w16 _ _ _ (sym (sine_less x)) (more_stands _ _ x fits sine_factor (sine_product x fits))

pub cosine_stands : (x : ℤ) → SFits w16 x → Stand w16 (more_bits 20091 x) (by_cosine x)
unfolding by_cosine
cosine_stands x fits = more_stands _ _ x fits cosine_factor (cosine_product x fits)

-- the four numbers of a pass, as bits
abbrev pub sum_bits : ℤ → ℤ → ℕ
sum_bits x y = (of_z w16 x + of_z w16 y) % 65536

abbrev pub less_bits : ℤ → ℤ → ℕ
less_bits x y = (of_z w16 x + (65536 - of_z w16 y)) % 65536

abbrev pub odd_sum : ℤ → ℤ → ℕ
odd_sum x y = (more_bits 20091 x + more_bits 4294937228 y) % 65536

abbrev pub odd_less : ℤ → ℤ → ℕ
odd_less x y = (more_bits 4294937228 x + (65536 - more_bits 20091 y)) % 65536

-- a lane after two interleavings
abbrev pub lane : ℕ → ℤ
lane n = to_z w16 (of_z w16 (to_z w16 (of_z w16 (to_z w16 n))))

pub lane_is : (n : ℕ) (z : ℤ) → Stand w16 n z → lane n ≡ reduced z
lane_is n z s =
    let same = of_z-to_z w16 n s.below in
    ap (λ (k : ℕ). to_z w16 (of_z w16 (to_z w16 k))) same ∙ ap (to_z w16) same ∙ s.is

module _ (i0 i1 i2 i3 : ℤ) (fits0 : SFits w16 i0) (fits1 : SFits w16 i1) (fits2 : SFits w16 i2) (fits3 : SFits w16 i3) where
  a_stands : Stand w16 (sum_bits i0 i2) (i0 +ℤ i2)
  a_stands = Stand-plus w16 _ _ _ _ (Stand-of w16 i0 fits0) (Stand-of w16 i2 fits2)

  b_stands : Stand w16 (less_bits i0 i2) (i0 -ℤ i2)
  b_stands = Stand-minus w16 _ _ _ _ (Stand-of w16 i0 fits0) (Stand-of w16 i2 fits2)

  c_stands : Stand w16 (odd_less i1 i3) (by_sine i1 -ℤ by_cosine i3)
  c_stands = Stand-minus w16 _ _ _ _ (sine_stands i1 fits1) (cosine_stands i3 fits3)

  d_stands : Stand w16 (odd_sum i1 i3) (by_cosine i1 +ℤ by_sine i3)
  d_stands = Stand-plus w16 _ _ _ _ (cosine_stands i1 fits1) (sine_stands i3 fits3)

  pub pass_lane0 : lane ((sum_bits i0 i2 + odd_sum i1 i3) % 65536) ≡ reduced (dct_pass 0 i0 i1 i2 i3)
  unfolding dct_pass
  pass_lane0 = lane_is _ _ (Stand-plus w16 _ _ _ _ a_stands d_stands)

  pub pass_lane1 : lane ((less_bits i0 i2 + odd_less i1 i3) % 65536) ≡ reduced (dct_pass 1 i0 i1 i2 i3)
  unfolding dct_pass
  pass_lane1 = lane_is _ _ (Stand-plus w16 _ _ _ _ b_stands c_stands)

  pub pass_lane2 : lane ((less_bits i0 i2 + (65536 - odd_less i1 i3)) % 65536) ≡ reduced (dct_pass 2 i0 i1 i2 i3)
  unfolding dct_pass
  pass_lane2 = lane_is _ _ (Stand-minus w16 _ _ _ _ b_stands c_stands)

  pub pass_lane3 : lane ((sum_bits i0 i2 + (65536 - odd_sum i1 i3)) % 65536) ≡ reduced (dct_pass 3 i0 i1 i2 i3)
  unfolding dct_pass
  pass_lane3 = lane_is _ _ (Stand-minus w16 _ _ _ _ a_stands d_stands)

-- the lanes of a column
pub column_lanes : (cs : List ℤ) (column : ℕ) → SFits w16 (coefficient cs column 0) → SFits w16 (coefficient cs column 1) → SFits w16 (coefficient cs column 2) → SFits w16 (coefficient cs column 3)
    → lane ((sum_bits (coefficient cs column 0) (coefficient cs column 2) + odd_sum (coefficient cs column 1) (coefficient cs column 3)) % 65536)
    ∷ lane ((less_bits (coefficient cs column 0) (coefficient cs column 2) + odd_less (coefficient cs column 1) (coefficient cs column 3)) % 65536)
    ∷ lane ((less_bits (coefficient cs column 0) (coefficient cs column 2) + (65536 - odd_less (coefficient cs column 1) (coefficient cs column 3))) % 65536)
    ∷ lane ((sum_bits (coefficient cs column 0) (coefficient cs column 2) + (65536 - odd_sum (coefficient cs column 1) (coefficient cs column 3))) % 65536) ∷ []
    ≡ map (dct_column cs column) (range_with_len 0 4)
unfolding dct_column
column_lanes cs column f0 f1 f2 f3 = next_same (pass_lane0 _ _ _ _ f0 f1 f2 f3) (next_same (pass_lane1 _ _ _ _ f0 f1 f2 f3) (next_same (pass_lane2 _ _ _ _ f0 f1 f2 f3) (next_same (pass_lane3 _ _ _ _ f0 f1 f2 f3) refl)))
