use Rattle.std.proofs.Common.{◌≡◌, ℕ, zero, suc, ◌-◌, ◌*◌, ◌<◌, ◌≤◌, refl, arith}
use Rattle.std.proofs.Math.Nat.{mul-le-mul_left}
use Rattle.std.proofs.lemmas.Bool.{lt-ltb, le-ltb}
use Rattle.bool_coder.specs.Reader.{Reader, doubled, renewed, split_of}

-- a range of 128 or more stays
pub renewed_large : (fuel : ℕ) (r : Reader) → 128 ≤ r.range → renewed fuel r ≡ r
unfolding renewed
renewed_large zero r large = refl
renewed_large (suc fuel) r large = rw (le-ltb r.range 128 large) refl

-- a smaller range is doubled once
pub renewed_small : (fuel : ℕ) (r : Reader) → r.range < 128 → renewed (suc fuel) r ≡ renewed fuel (doubled r)
unfolding renewed
renewed_small fuel r small = rw (lt-ltb r.range 128 small) refl

-- a split leaves something on both sides
pub split_of-small : (prob range : ℕ) → prob ≤ 255 → 128 ≤ range → split_of prob range < range
split_of-small prob range probable large =
    let most : (range - 1) * prob ≤ (range - 1) * 255 = mul-le-mul_left (range - 1) probable in omega arith
