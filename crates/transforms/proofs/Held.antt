-- Samples with their residuals in lanes of 16 bits, clamped to 0 to 255.
use Rattle.std.proofs.Common.{◌≡◌, ℕ, ◌+◌, ◌%◌, ◌<◌, min, Bool, true, false, refl, ap, sym, ◌∙◌, arith, ℤ, pos, negsuc, ◌+ℤ◌, w8, w16, Fits, SFits, to_z, of_z}
use Rattle.std.proofs.lemmas.Bool.Decides.{nat_tests}
use Rattle.std.proofs.lemmas.Int.{ints, to_z_pos, of_z-to_z}
use mathlib.Core.Bool.{cond}
use lib.Dec.{T}
use lib.IntN.{nat_abs}
use lib.Lanes.{top}
use lib.Signed.{lt_z, non_neg}
use Rattle.vp8_tables.specs.Bounds.{IsWithin, clamped_sample}
use Rattle.transforms.proofs.Bits.{Stand, Stand-plus, Stand-of, Stand-fits}

-- bits of a number below 0 become 0, and bits of one above 255 become 255
abbrev pub not_below : ℕ → ℕ
not_below n = cond (top 15 (cond (lt_z (to_z w16 n) (pos 0)) 65535 0)) 0 n

abbrev pub held_bits : ℕ → ℕ
held_bits n = cond (top 15 (cond (lt_z (to_z w16 (not_below n)) (pos 255)) 65535 0)) (not_below n) 255

mask_top : (b : Bool) → top 15 (cond b 65535 0) ≡ b
mask_top true = refl
mask_top false = refl

not_below-pos : (m : ℕ) → m < 32768 → not_below m ≡ m
not_below-pos m small = rw (to_z_pos w16 m small, mask_top) (grind (arith, nat_tests))

not_below-neg : (n m : ℕ) → to_z w16 n ≡ negsuc m → not_below n ≡ 0
not_below-neg n m is = rw is refl

held_bits-pos : (m : ℕ) → m < 32768 → held_bits m ≡ min m 255
held_bits-pos m small = rw (not_below-pos m small, to_z_pos w16 m small, mask_top) (grind (arith, nat_tests))

held_bits-neg : (n m : ℕ) → to_z w16 n ≡ negsuc m → held_bits n ≡ 0
held_bits-neg n m is = rw (not_below-neg n m is) refl

-- a number that is as small as a sum of a sample and a residual
sum_fits : (z : ℤ) → IsWithin 16639 z → SFits w16 z
sum_fits (pos n) within = record { sfits = omega (arith, ints, within.0, within.1) }
sum_fits (negsuc n) within = record { sfits = omega (arith, ints, within.0, within.1) }

pub held_lane : (n : ℕ) (z : ℤ) → Stand w16 n z → IsWithin 16639 z → to_z w16 (held_bits n) ≡ pos (clamped_sample z)
held_lane n (pos m) s within =
    let is : to_z w16 n ≡ pos m = Stand-fits w16 n (pos m) s (sum_fits _ within) in
    let same : n ≡ m = sym (of_z-to_z w16 n s.below) ∙ ap (of_z w16) is in
    let small : m < 32768 = omega (arith, ints, within.0, within.1) in
    ap (λ (k : ℕ). to_z w16 (held_bits k)) same ∙ ap (to_z w16) (held_bits-pos m small) ∙ to_z_pos w16 (min m 255) (omega arith)
held_lane n (negsuc m) s within =
    let is : to_z w16 n ≡ negsuc m = Stand-fits w16 n (negsuc m) s (sum_fits _ within) in
    ap (to_z w16) (held_bits-neg n m is)

pub held_small : (z : ℤ) → clamped_sample z < 256
held_small (pos n) = omega arith
held_small (negsuc n) = omega arith

-- the bits of a sample and a residual
abbrev pub sum_bits : ℕ → ℤ → ℕ
sum_bits sample residual = (sample + of_z w16 residual) % 65536

residual_fits : (z : ℤ) → IsWithin 16384 z → SFits w16 z
residual_fits (pos n) within = record { sfits = omega (arith, ints, within.0, within.1) }
residual_fits (negsuc n) within = record { sfits = omega (arith, ints, within.0, within.1) }

sum_lane : (sample : ℕ) (residual : ℤ) → sample < 256 → IsWithin 16384 residual → to_z w16 (held_bits (sum_bits sample residual)) ≡ pos (clamped_sample (pos sample +ℤ residual))
sum_lane sample residual small within =
    let sample_fits : SFits w16 (pos sample) = record { sfits = omega arith } in
    let stands : Stand w16 (sum_bits sample residual) (pos sample +ℤ residual) = Stand-plus w16 _ _ (pos sample) residual (Stand-of w16 (pos sample) sample_fits) (Stand-of w16 residual (residual_fits residual within)) in
    held_lane _ _ stands (omega (arith, ints, within.0, within.1), omega (arith, ints, within.0, within.1))

pub sum_is : (sample : ℕ) (residual : ℤ) → sample < 256 → IsWithin 16384 residual → nat_abs (to_z w16 (held_bits (sum_bits sample residual))) ≡ clamped_sample (pos sample +ℤ residual)
sum_is sample residual small within = ap nat_abs (sum_lane sample residual small within)

-- and it fits a sample
pub sum_asks : (sample : ℕ) (residual : ℤ) → sample < 256 → IsWithin 16384 residual → T (non_neg (to_z w16 (held_bits (sum_bits sample residual)))) × Fits w8 (nat_abs (to_z w16 (held_bits (sum_bits sample residual))))
sum_asks sample residual small within = rw (sum_lane sample residual small within) (tt, record { fits = held_small _ })
