use Rattle.std.proofs.Common.{◌≡◌, ℕ, suc, ◌+◌, ◌-◌, ◌*◌, ◌^◌, ◌<◌, ◌≤◌, Bool, true, false, refl, ◌∙◌, add-one, arith}
use Rattle.std.proofs.Math.Nat.{pow-suc}
use Rattle.std.specs.Int.{from_bool}
use Rattle.bool_coder.specs.Reader.{Reader, read}
use Rattle.bool_coder.specs.Reading.{more_bits}

-- the equations of a number's bits
more_bits-zero : (value : ℕ) (r : Reader) → more_bits 0 value r ≡ (value, r)
unfolding more_bits
more_bits-zero value r = refl

more_bits-suc : (count value : ℕ) (r : Reader) → more_bits (suc count) value r ≡ more_bits count (2 * value + from_bool (read 128 r).0) (read 128 r).1
unfolding more_bits
more_bits-suc count value r = refl

-- one bit more of a number of `count` bits, of which `i` are read
pub more_bits-step : (count i value : ℕ) (r s : Reader) (bit : Bool) → i < count → read 128 r ≡ (bit, s) → more_bits (count - i) value r ≡ more_bits (count - (i + 1)) (2 * value + from_bool bit) s
more_bits-step count i value r s bit below told =
    let one_more : count - i ≡ suc (count - (i + 1)) = omega arith in
    rw one_more (more_bits-suc _ _ _ ∙ rw told refl)

-- no bit is left
pub more_bits-end : (count value : ℕ) (r : Reader) → more_bits (count - count) value r ≡ (value, r)
more_bits-end count value r =
    let none : count - count ≡ 0 = omega arith in rw none (more_bits-zero value r)

-- a bit is 0 or 1
pub from_bool-le_one : (bit : Bool) → from_bool bit ≤ 1
from_bool-le_one false = omega arith
from_bool-le_one true = omega arith

-- so it turns a number of `i` bits into one of `i + 1`
pub with_bit-small : (i value : ℕ) (bit : Bool) → value < 2 ^ i → 2 * value + from_bool bit < 2 ^ (i + 1)
with_bit-small i value bit small =
    let power : 2 ^ (i + 1) ≡ 2 ^ i * 2 = rw add-one (pow-suc 2 i) in
    let one : from_bool bit ≤ 1 = from_bool-le_one bit in omega arith
