-- The probability of a bit as the decoder multiplies with it.
use Rattle.std.specs.Prelude.{◌≡◌, ◌≤◌, ℕ, ◌-◌, ◌*◌, ◌/◌, ◌^◌}
use Rattle.bool_coder.specs.declared.odds.Odds.{Odds}

-- the odds of a bit that is 0 with this probability in 256
abbrev pub odds_of : ℕ → Odds
odds_of prob = record { zero = prob * 2 ^ 16; one = (256 - prob) * 2 ^ 16 }

-- the probability that odds were made of
abbrev pub prob_in : Odds → ℕ
prob_in odds = odds.zero / 2 ^ 16

-- odds of a probability of 0 to 255
abbrev pub AreOdds : Odds → Type 0
AreOdds odds = (prob_in odds ≤ 255) × (odds ≡ odds_of (prob_in odds))
