-- The split in the highest byte of a product.
use Rattle.std.proofs.Common.{◌≡◌, ℕ, suc, ◌+◌, ◌-◌, ◌*◌, ◌/◌, ◌%◌, ◌^◌, ◌<◌, ◌≤◌, sym, ap, ◌∙◌, arith, inl, inr}
use Rattle.std.specs.Int.Count.{count_leading_zeros}
use Rattle.std.proofs.Math.Nat.{pow-suc, pow-le-pow_right, mul-le-mul_right, mul-le-mul_left, mod-eq_of_lt, mul_right_comm, mul_assoc}
use Rattle.std.proofs.lemmas.Bool.{cases_lt}
use Rattle.std.proofs.lemmas.Nat.{leading_top, pow-add, pow_pos}
use Rattle.bool_coder.specs.Odds.{AreOdds, prob_in}
use Rattle.bool_coder.specs.Reader.{split_of}
use Rattle.bool_coder.specs.declared.odds.Odds.{Odds}

-- the product of the range and a probability, whatever part of the shift is made first
product-is : (prob range shift : ℕ) → range * (prob * 2 ^ 16) * 2 ^ shift ≡ range * 2 ^ shift * prob * 2 ^ 16
product-is prob range shift = mul_right_comm range (prob * 2 ^ 16) (2 ^ shift) ∙ sym (mul_assoc (range * 2 ^ shift) prob (2 ^ 16))

-- the split is 1 + (whole - 1) * prob / 256
split-is : (prob whole : ℕ) → prob ≤ 255 → 1 ≤ whole → (whole * prob + (256 - prob)) / 256 ≡ split_of prob whole
split-is prob whole probable some =
    let rest : (whole - 1) + 1 ≡ whole = omega arith in
    let product : ((whole - 1) + 1) * prob ≡ (whole - 1) * prob + prob = omega arith in
    let product_here : whole * prob ≡ (whole - 1) * prob + prob = rw rest at product in
    omega arith

-- the product fits
most-product : (prob whole : ℕ) → prob ≤ 255 → whole ≤ 255 → whole * prob + (256 - prob) ≤ 65281
most-product prob whole probable most =
    let below : whole * prob ≤ 255 * prob = mul-le-mul_right prob most in
    omega arith

pub product-fits : (prob range shift : ℕ) → prob ≤ 255 → range * 2 ^ shift ≤ 255 → range * (prob * 2 ^ 16) * 2 ^ shift + (256 - prob) * 2 ^ 16 < 2 ^ 32
product-fits prob range shift probable most =
    let bound : range * 2 ^ shift * prob + (256 - prob) ≤ 65281 = most-product prob (range * 2 ^ shift) probable most in
    rw (product-is prob range shift) (omega arith)

pub first-fits : (prob range shift : ℕ) → prob ≤ 255 → range * 2 ^ shift ≤ 255 → range * (prob * 2 ^ 16) < 2 ^ 32
first-fits prob range shift probable most =
    let all : range * (prob * 2 ^ 16) * 2 ^ shift + (256 - prob) * 2 ^ 16 < 2 ^ 32 = product-fits prob range shift probable most in
    let least : 1 ≤ 2 ^ shift = pow_pos shift in
    let part : range * (prob * 2 ^ 16) * 1 ≤ range * (prob * 2 ^ 16) * 2 ^ shift = mul-le-mul_left (range * (prob * 2 ^ 16)) least in
    omega arith

pub product-split : (prob range shift : ℕ) → prob ≤ 255 → 1 ≤ range → range * 2 ^ shift ≤ 255 → (range * (prob * 2 ^ 16) * 2 ^ shift + (256 - prob) * 2 ^ 16) / 2 ^ 24 ≡ split_of prob (range * 2 ^ shift)
product-split prob range shift probable some most =
    let least : 1 ≤ 2 ^ shift = pow_pos shift in
    let part : range * 1 ≤ range * 2 ^ shift = mul-le-mul_left range least in
    let split : (range * 2 ^ shift * prob + (256 - prob)) / 256 ≡ split_of prob (range * 2 ^ shift) = split-is prob (range * 2 ^ shift) probable (omega arith) in
    rw (product-is prob range shift) (omega arith)

-- a product whose highest byte is not 0 is between two powers, from 2 ^ 24 on
pub record Highest (scaled : ℕ) : Type 0 where
  pub top : ℕ
  pub zeros : count_leading_zeros 32 scaled + (top + 25) ≡ 32
  pub above : 2 ^ top ≤ scaled / 2 ^ 24
  pub below : scaled / 2 ^ 24 < 2 ^ suc top

top-least : (top scaled : ℕ) → 2 ^ 24 ≤ scaled → scaled < 2 ^ suc top → 24 ≤ top
top-least top scaled large below =
    elim (cases_lt top 24) [ inl small ↦ let two_pos : 0 < 2 = omega arith in let power : 2 ^ suc top ≤ 2 ^ 24 = pow-le-pow_right two_pos small in absurd (omega arith) | inr large ↦ large ]

pub highest_of : (scaled : ℕ) → 1 ≤ scaled / 2 ^ 24 → scaled < 2 ^ 32 → Highest scaled
highest_of scaled some most =
    let found : (j : ℕ) × (count_leading_zeros 32 scaled + suc j ≡ 32) × (2 ^ j ≤ scaled) × (scaled < 2 ^ suc j) = leading_top 32 scaled (omega arith) (omega arith) in
    let least : 24 ≤ found.0 = top-least found.0 scaled (omega arith) found.3 in
    let whole : found.0 ≡ (found.0 - 24) + 24 = omega arith in
    let power : 2 ^ ((found.0 - 24) + 24) ≡ 2 ^ (found.0 - 24) * 2 ^ 24 = pow-add 2 (found.0 - 24) 24 in
    let power_here : 2 ^ found.0 ≡ 2 ^ (found.0 - 24) * 2 ^ 24 = rw (← whole) at power in
    let twice : 2 ^ suc found.0 ≡ 2 ^ found.0 * 2 = pow-suc 2 found.0 in
    let twice_here : 2 ^ suc (found.0 - 24) ≡ 2 ^ (found.0 - 24) * 2 = pow-suc 2 (found.0 - 24) in
    record { top = found.0 - 24; zeros = omega arith; above = omega arith; below = omega arith }

-- the same for odds, as the code adds them up
whole-product : (prob range shift : ℕ) → prob ≤ 255 → range * 2 ^ shift ≤ 255 → range * (prob * 2 ^ 16) * 2 ^ shift % 2 ^ 32 ≡ range * (prob * 2 ^ 16) * 2 ^ shift
whole-product prob range shift probable most =
    let all : range * (prob * 2 ^ 16) * 2 ^ shift + (256 - prob) * 2 ^ 16 < 2 ^ 32 = product-fits prob range shift probable most in
    mod-eq_of_lt (omega arith)

sum-fits : (prob none one range shift : ℕ) → none ≡ prob * 2 ^ 16 → one ≡ (256 - prob) * 2 ^ 16 → prob ≤ 255 → range * 2 ^ shift ≤ 255 → range * none * 2 ^ shift % 2 ^ 32 + one < 2 ^ 32
sum-fits prob none one range shift is_none is_one probable most = rw (is_none, is_one, whole-product prob range shift probable most) (product-fits prob range shift probable most)

sum-split : (prob none one range shift : ℕ) → none ≡ prob * 2 ^ 16 → one ≡ (256 - prob) * 2 ^ 16 → prob ≤ 255 → 1 ≤ range → range * 2 ^ shift ≤ 255 → (range * none * 2 ^ shift % 2 ^ 32 + one) / 2 ^ 24 ≡ split_of prob (range * 2 ^ shift)
sum-split prob none one range shift is_none is_one probable some most = rw (is_none, is_one, whole-product prob range shift probable most) (product-split prob range shift probable some most)

pub odds-fit : (odds : Odds) (range shift : ℕ) → AreOdds odds → range * 2 ^ shift ≤ 255 → range * odds.zero * 2 ^ shift % 2 ^ 32 + odds.one < 2 ^ 32
odds-fit odds range shift are most = sum-fits (prob_in odds) odds.zero odds.one range shift (ap (λ (o : Odds). o.zero) are.1) (ap (λ (o : Odds). o.one) are.1) are.0 most

pub odds-split : (odds : Odds) (range shift : ℕ) → AreOdds odds → 1 ≤ range → range * 2 ^ shift ≤ 255 → (range * odds.zero * 2 ^ shift % 2 ^ 32 + odds.one) / 2 ^ 24 ≡ split_of (prob_in odds) (range * 2 ^ shift)
odds-split odds range shift are some most = sum-split (prob_in odds) odds.zero odds.one range shift (ap (λ (o : Odds). o.zero) are.1) (ap (λ (o : Odds). o.one) are.1) are.0 some most
