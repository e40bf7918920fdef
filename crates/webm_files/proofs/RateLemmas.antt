-- Fractions in lowest terms.
use Rattle.std.proofs.Common.{◌≡◌, ℕ, ◌/◌, ◌^◌, ◌<◌, ◌≤◌, sym, ap, ◌∙◌, arith}
use Rattle.std.specs.Int.{IsGcd}
use Rattle.std.proofs.lemmas.Nat.{le-div}
use Rattle.std.proofs.Math.Nat.{pos_of_dvd_of_pos}
use Rattle.std.proofs.lemmas.Nat.Gcd.{le_of_dvd, same_from_IsGcd}
use Rattle.webm_files.specs.Rates.{IsSmall}

-- a fraction whose second number is too great in lowest terms
pub too_great : (a b common : ℕ) → IsGcd a b common → 2 ^ 32 ≤ b / common → ¬ IsSmall a b
too_great a b common divisor great small =
    let same : common ≡ small.lowest.common = same_from_IsGcd a b common small.lowest.common divisor small.lowest.divisor in
    let scale : small.scale ≡ b / common = small.lowest.second ∙ ap (λ n. b / n) (sym same) in
    omega (arith, great, scale, small.scale_fits)

-- and one whose second number has more than 64 bits
pub beyond : (a b : ℕ) → a < 2 ^ 32 → 2 ^ 64 ≤ b → ¬ IsSmall a b
beyond a b few great small =
    let common : ℕ = small.lowest.common in
    let above : 0 < a = small.first in
    let most : common ≤ a = le_of_dvd above small.lowest.divisor.0 in
    let least : 0 < common = pos_of_dvd_of_pos small.lowest.divisor.0 above in
    let bound : 2 ^ 32 ≤ b / common = le-div (2 ^ 32) b common least (omega (arith, most, few, great)) in
    too_great a b common small.lowest.divisor bound small
