-- The weights of a ramp.
use Rattle.std.proofs.Common.{◌≡◌, ℕ, ◌+◌, ◌-◌, ◌*◌, ◌/◌, ◌^◌, ◌<◌, ◌≤◌, true, arith}
use Rattle.std.proofs.Math.Nat.{mul-le-mul_right, div-le_of_le-mul}
use Rattle.std.proofs.lemmas.Bool.Decides.{nat_tests}
use Rattle.script_nodes.specs.declared.nodes.Ramp.{Ramp}
use Rattle.script_nodes.specs.Nodes.{is_ramp}
use Rattle.script_nodes.specs.Frames.{weight_at}

pub record RampFacts (r : Ramp) : Type 0 where
  pub first : r.first < 2 ^ 32
  pub count : r.count < 2 ^ 32
  pub some : 0 < r.count
  pub start : r.start ≤ 256
  pub end : r.end ≤ 256

pub ramp_facts : (r : Ramp) → is_ramp r ≡ true → RampFacts r
ramp_facts r h = record {
  first = grind (arith, nat_tests);
  count = grind (arith, nat_tests);
  some = grind (arith, nat_tests);
  start = grind (arith, nat_tests);
  end = grind (arith, nat_tests);
}

pub weight_before : (r : Ramp) (i : ℕ) → i < r.first → r.start ≡ weight_at r i
unfolding weight_at
weight_before r i h = grind (arith, nat_tests)

pub weight_behind : (r : Ramp) (i : ℕ) → r.first ≤ i → r.count ≤ i - r.first → r.end ≡ weight_at r i
unfolding weight_at
weight_behind r i h following = grind (arith, nat_tests)

pub weight_between : (r : Ramp) (i : ℕ) → r.first ≤ i → i - r.first < r.count → (r.start * (r.count - (i - r.first)) + r.end * (i - r.first)) / r.count ≡ weight_at r i
unfolding weight_at
weight_between r i h within = grind (arith, nat_tests)

-- a mean of two weights is a weight
pub mixed : (a b count j : ℕ) → a ≤ 256 → b ≤ 256 → j < count → (a * (count - j) + b * j) / count ≤ 256
mixed a b count j first second within =
    div-le_of_le-mul count (omega (arith, mul-le-mul_right (count - j) first, mul-le-mul_right j second))

-- nothing of it is lost in 64 bits
pub mixed_fits : (a b count j : ℕ) → a ≤ 256 → b ≤ 256 → j < count → count < 2 ^ 32 → a * (count - j) + b * j < 2 ^ 41
mixed_fits a b count j first second within small =
    omega (arith, mul-le-mul_right (count - j) first, mul-le-mul_right j second)
