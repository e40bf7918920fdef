use Rattle.std.proofs.Common.{◌≡◌, ℕ, suc, ◌+◌, ◌-◌, ◌*◌, ◌^◌, ◌<◌, ◌≤◌, arith, inl, inr}
use Rattle.std.specs.Int.Count.{count_leading_zeros}
use Rattle.std.proofs.Math.Nat.{pow-suc, pow-le-pow_right, mul-le-mul_right}
use Rattle.std.proofs.lemmas.Bool.{cases_lt}
use Rattle.std.proofs.lemmas.Nat.{leading_top, pow-add, pow_pos}

-- a range of 1 to 255 is between two powers, the highest of which is 2 ^ 7
pub record Top (range : ℕ) : Type 0 where
  pub top : ℕ
  pub zeros : count_leading_zeros 32 range + suc top ≡ 32
  pub most : top ≤ 7
  pub above : 2 ^ top ≤ range
  pub below : range < 2 ^ suc top

top-most : (top range : ℕ) → 2 ^ top ≤ range → range ≤ 255 → top ≤ 7
top-most top range above most =
    elim (cases_lt top 8) [ inl small ↦ omega arith | inr large ↦ let two_pos : 0 < 2 = omega arith in let power : 2 ^ 8 ≤ 2 ^ top = pow-le-pow_right two_pos large in absurd (omega arith) ]

pub top_of : (range : ℕ) → 1 ≤ range → range ≤ 255 → Top range
top_of range some most =
    let found : (j : ℕ) × (count_leading_zeros 32 range + suc j ≡ 32) × (2 ^ j ≤ range) × (range < 2 ^ suc j) = leading_top 32 range (omega arith) (omega arith) in
    record { top = found.0; zeros = found.1; most = top-most found.0 range found.2 most; above = found.2; below = found.3 }

pub shift_of-some : (range : ℕ) → 1 ≤ range → range ≤ 255 → 24 ≤ count_leading_zeros 32 range
shift_of-some range some most = let found : Top range = top_of range some most in omega arith

pub scaled-large : (range top count : ℕ) → top + count ≡ 7 → 2 ^ top ≤ range → 128 ≤ range * 2 ^ count
scaled-large range top count whole above =
    let power : 2 ^ (top + count) ≡ 2 ^ top * 2 ^ count = pow-add 2 top count in
    let whole_power : 2 ^ 7 ≡ 2 ^ top * 2 ^ count = rw whole at power in
    let product : 2 ^ top * 2 ^ count ≤ range * 2 ^ count = mul-le-mul_right (2 ^ count) above in
    omega arith

pub scaled-small : (range top count : ℕ) → top + count ≡ 7 → range < 2 ^ suc top → range * 2 ^ count < 256
scaled-small range top count whole below =
    let power : 2 ^ (top + count) ≡ 2 ^ top * 2 ^ count = pow-add 2 top count in
    let whole_power : 2 ^ 7 ≡ 2 ^ top * 2 ^ count = rw whole at power in
    let twice : 2 ^ suc top ≡ 2 ^ top * 2 = pow-suc 2 top in
    let least : 0 < 2 ^ count = pow_pos count in
    let product : (range + 1) * 2 ^ count ≤ 2 ^ top * 2 * 2 ^ count = mul-le-mul_right (2 ^ count) (omega arith) in
    omega arith

pub shift_of-large : (range : ℕ) → 1 ≤ range → range ≤ 255 → 128 ≤ range * 2 ^ (count_leading_zeros 32 range - 24)
shift_of-large range some most =
    let found : Top range = top_of range some most in
    scaled-large range found.top (count_leading_zeros 32 range - 24) (omega arith) found.above

pub shift_of-small : (range : ℕ) → 1 ≤ range → range ≤ 255 → range * 2 ^ (count_leading_zeros 32 range - 24) < 256
shift_of-small range some most =
    let found : Top range = top_of range some most in
    scaled-small range found.top (count_leading_zeros 32 range - 24) (omega arith) found.below
