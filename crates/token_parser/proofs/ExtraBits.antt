-- The extra bits of a size, in sequence
use Rattle.std.proofs.Common.{◌≡◌, ℕ, ◌+◌, ◌*◌, ◌^◌, ◌<◌, ◌≤◌, Bool, true, false, List, ◌∷◌, length, drop, refl, add-one, arith}
use Rattle.std.specs.Prelude.{slice_index}
use Rattle.std.proofs.Math.Nat.{pow-suc, pow-le-pow_right}
use Rattle.std.proofs.Math.Seq.{drop-cons}
use Rattle.std.proofs.lemmas.List.{drop_all}
use Rattle.std.specs.Int.{from_bool}
use Rattle.bool_coder.specs.Reader.{Reader, read}
use Rattle.token_parser.specs.TokenTree.{more_extra_bits, size_in}

more_extra_bits-cons : (prob : ℕ) (probs : List ℕ) (value : ℕ) (r s : Reader) (bit : Bool) → read prob r ≡ (bit, s) → more_extra_bits (prob ∷ probs) value r ≡ more_extra_bits probs (2 * value + from_bool bit) s
unfolding more_extra_bits
more_extra_bits-cons prob probs value r s bit tokens_read = rw tokens_read refl

-- one more bit, of which i are read
pub more_extra_bits-step : (probs : List ℕ) (i value : ℕ) (r s : Reader) (bit : Bool) → i < length probs → read (slice_index probs i) r ≡ (bit, s) → more_extra_bits (drop i probs) value r ≡ more_extra_bits (drop (i + 1) probs) (2 * value + from_bool bit) s
more_extra_bits-step probs i value r s bit below tokens_read =
    rw (drop-cons probs i 0 below, add-one) (more_extra_bits-cons _ _ _ _ _ _ tokens_read)

-- none is left
pub more_extra_bits-end : (probs : List ℕ) (i value : ℕ) (r : Reader) → length probs ≤ i → more_extra_bits (drop i probs) value r ≡ (value, r)
unfolding more_extra_bits
more_extra_bits-end probs i value r past = rw (drop_all i probs past) refl

-- the size of a category
pub size_in-extra : (least : ℕ) (probs : List ℕ) (extra : ℕ) (r s : Reader) → more_extra_bits probs 0 r ≡ (extra, s) → size_in least probs r ≡ (least + extra, s)
unfolding size_in
size_in-extra least probs extra r s tokens_read = rw tokens_read refl

from_bool-le_one : (bit : Bool) → from_bool bit ≤ 1
from_bool-le_one false = omega arith
from_bool-le_one true = omega arith

-- a number of i bits becomes one of i + 1
pub with_bit-small : (i value : ℕ) (bit : Bool) → value < 2 ^ i → 2 * value + from_bool bit < 2 ^ (i + 1)
with_bit-small i value bit small =
    let power : 2 ^ (i + 1) ≡ 2 ^ i * 2 = rw add-one (pow-suc 2 i) in
    let one : from_bool bit ≤ 1 = from_bool-le_one bit in omega arith

-- eleven bits at most
pub extra-small : (i value : ℕ) → i ≤ 11 → value < 2 ^ i → value < 2048
extra-small i value few small =
    let power : 2 ^ i ≤ 2 ^ 11 = pow-le-pow_right (omega arith) few in omega arith

pub extra-smaller : (i value : ℕ) → i < 11 → value < 2 ^ i → value < 1024
extra-smaller i value few small =
    let less : i ≤ 10 = omega arith in
    let power : 2 ^ i ≤ 2 ^ 10 = pow-le-pow_right (omega arith) less in omega arith
