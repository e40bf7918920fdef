-- Products with factors.
use Rattle.std.proofs.Common.{◌≡◌, ℕ, zero, suc, ◌*◌, ◌%◌, ◌≤◌, Bool, true, ◌&&◌, leb, List, [], ◌∷◌, get_or, refl, ap, ◌∙◌, arith, ℤ, ◌*ℤ◌, w16, SFits, to_z, of_z}
use Rattle.std.proofs.lemmas.Bool.Decides.{nat_tests}
use Rattle.std.proofs.lemmas.Int.{of_z-to_z}
use Rattle.transforms.proofs.Bits.{Stand-times, Stand-of}
use Rattle.transforms.specs.Transforms.{reduced}
use Rattle.vp8_tables.specs.declared.quantizers.TheConstants.{AC_QUANTIZERS}

-- no number of a list is above n
none_above : List ℕ → ℕ → Bool
none_above [] n = true
none_above (x ∷ xs) n = leb x n && none_above xs n

none_above-at : (xs : List ℕ) (n i : ℕ) → none_above xs n ≡ true → get_or xs i 0 ≤ n
unfolding none_above
none_above-at [] n i all = omega arith
none_above-at (x ∷ xs) n zero all = grind (arith, nat_tests)
none_above-at (x ∷ xs) n (suc i) all = none_above-at xs n i (grind (arith, nat_tests))

-- no factor of other coefficients is above 284
pub ac_small : (i : ℕ) → get_or AC_QUANTIZERS i 0 ≤ 284
unfolding none_above
ac_small i = none_above-at AC_QUANTIZERS 284 i refl

-- a lane of a product, read from an array
pub product_lane : (x y : ℤ) → SFits w16 x → SFits w16 y → to_z w16 (of_z w16 (to_z w16 (of_z w16 x * of_z w16 y % 65536))) ≡ reduced (x *ℤ y)
product_lane x y f g =
    let s = Stand-times w16 _ _ x y (Stand-of w16 x f) (Stand-of w16 y g) in
    ap (to_z w16) (of_z-to_z w16 _ s.below) ∙ s.is
