-- Bits of lanes, and the numbers that they represent.
use Rattle.std.proofs.Common.{◌≡◌, ℕ, zero, suc, ◌+◌, ◌-◌, ◌*◌, ◌%◌, ◌^◌, ◌<◌, refl, sym, ◌∙◌, arith, ℤ, pos, negsuc, ◌+ℤ◌, ◌-ℤ◌, ◌*ℤ◌, w16, w32, SFits, to_z, of_z}
use Rattle.std.proofs.lemmas.Int.{ints, to_z-of_z, int_wrap_fits, wrapping_add-bits, wrapping_sub-bits, wrapping_mul-bits, int_wrap-add_left, int_wrap-add_right, int_wrap-sub_right, int_wrap-mul_left, int_wrap-mul_right}
use Rattle.std.specs.Int.{int_wrap, int_shr}
use mir.Syntax.{Width}
use mir.Val.{bits}
use mir.ValLaws.{of_z_fits}
use lib.Pow.{pow_pos}
use native.Mathlib.Nat.{mod-lt}
use Rattle.transforms.specs.Transforms.{by_sine}

-- a number of 16 bits has 32
pub wider : (z : ℤ) → SFits w16 z → SFits w32 z
wider z fits = record { sfits = omega (arith, fits.sfits) }

-- the bits n represent a number that may be too large for them: they are the bits of its reduced form
pub record Stand (w : Width) (n : ℕ) (z : ℤ) : Type 0 where
  pub below : n < 2 ^ bits w
  pub is : to_z w n ≡ int_wrap w z

-- sums, differences and products that wrap
pub Stand-plus : (w : Width) (m n : ℕ) (x y : ℤ) → Stand w m x → Stand w n y → Stand w ((m + n) % 2 ^ bits w) (x +ℤ y)
Stand-plus w m n x y sm sn = record {
  below = mod-lt (m + n) (pow_pos (bits w));
  is = wrapping_add-bits w m n sm.below sn.below ∙ rw (sm.is, sn.is) (int_wrap-add_left w x (int_wrap w y) ∙ int_wrap-add_right w x y);
}

pub Stand-minus : (w : Width) (m n : ℕ) (x y : ℤ) → Stand w m x → Stand w n y → Stand w ((m + (2 ^ bits w - n)) % 2 ^ bits w) (x -ℤ y)
Stand-minus w m n x y sm sn = record {
  below = mod-lt (m + (2 ^ bits w - n)) (pow_pos (bits w));
  is = wrapping_sub-bits w m n sm.below sn.below ∙ rw (sm.is, sn.is) (int_wrap-sub_right w (int_wrap w x) y ∙ int_wrap-add_left w x _);
}

pub Stand-times : (w : Width) (m n : ℕ) (x y : ℤ) → Stand w m x → Stand w n y → Stand w ((m * n) % 2 ^ bits w) (x *ℤ y)
Stand-times w m n x y sm sn = record {
  below = mod-lt (m * n) (pow_pos (bits w));
  is = wrapping_mul-bits w m n sm.below sn.below ∙ rw (sm.is, sn.is) (int_wrap-mul_left w x (int_wrap w y) ∙ int_wrap-mul_right w x y);
}

-- a number that fits has its bits
pub Stand-of : (w : Width) (x : ℤ) → SFits w x → Stand w (of_z w x) x
Stand-of w x fits = record { below = (of_z_fits w x fits).fits; is = to_z-of_z w x fits ∙ sym (int_wrap_fits w x fits) }

-- and equals the number of its bits
pub Stand-fits : (w : Width) (n : ℕ) (z : ℤ) → Stand w n z → SFits w z → to_z w n ≡ z
Stand-fits w n z s fits = s.is ∙ int_wrap_fits w z fits

pub Stand-same : (w : Width) (n : ℕ) (x y : ℤ) → x ≡ y → Stand w n x → Stand w n y
Stand-same w n x y same s = rw (← same) s

-- a fraction of a number of 16 bits, in 65,536ths rounded down, and its position among 16 bits
pub shifted_fits : (z : ℤ) → SFits w32 z → SFits w16 (int_shr z 16)
shifted_fits (pos n) fits = record { sfits = let small : n < 2147483648 = fits.sfits in omega arith }
shifted_fits (negsuc n) fits = record { sfits = let small : n < 2147483648 = fits.sfits in omega arith }

-- products of a number of 16 bits have 32
pub sine_product : (x : ℤ) → SFits w16 x → SFits w32 (x *ℤ negsuc 30067)
sine_product x fits = record { sfits = omega (arith, ints, fits.sfits) }

pub cosine_product : (x : ℤ) → SFits w16 x → SFits w32 (x *ℤ pos 20091)
cosine_product x fits = record { sfits = omega (arith, ints, fits.sfits) }

-- the smaller of the products of the sine
pub sine_less : (x : ℤ) → by_sine x ≡ x +ℤ int_shr (x *ℤ negsuc 30067) 16
unfolding by_sine
sine_less (pos zero) = refl
sine_less (pos (suc n)) =
    let product : pos (suc n) *ℤ negsuc 30067 ≡ negsuc (30068 * n + 30067) = omega (arith, ints) in rw product (omega (arith, ints))
sine_less (negsuc n) =
    let larger : negsuc n *ℤ pos 35468 ≡ negsuc (35468 * n + 35467) = omega (arith, ints) in
    rw larger (omega (arith, ints))
