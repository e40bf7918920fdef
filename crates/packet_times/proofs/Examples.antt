-- The heads of the worked examples.
use Rattle.std.proofs.Common.{◌≡◌, ℕ, true, false, [], ◌∷◌, refl, inl, arith}
use Rattle.std.specs.Int.{IsGcd}
use Rattle.std.proofs.lemmas.Nat.Gcd.{IsGcd-from_mod, IsGcd-from_zero}
use Rattle.std.proofs.Math.Nat.{one-dvd}
use Rattle.packet_times.specs.Heads.{IsGreatestUnit, IsHeadFor}
use Rattle.packet_times.specs.Examples.{head_of, thirty, twenty}
use Rattle.packet_times.specs.Sums.{bases_of}
use Rattle.packet_times.proofs.Units.{first_multiple, greatest_of_two}

with_one : (n : ℕ) → IsGcd n 1 1
with_one n = (one-dvd n, one-dvd 1, λ d p q. q)

gcd_ten : IsGcd 20 30 10
gcd_ten = IsGcd-from_mod 20 30 10 (IsGcd-from_mod 30 20 10 (IsGcd-from_mod 20 10 10 (IsGcd-from_zero 10 0 refl)))

sixty : IsGreatestUnit ((30, 1) ∷ (20, 1) ∷ []) (60, 1)
sixty = greatest_of_two (30, 1) (20, 1) (60, 1) 600 10 (omega arith, omega arith) (omega arith, omega arith)
    (record { positive = (omega arith, omega arith); rates = refl; scales = gcd_ten })
    (record { positive = (omega arith, omega arith); same = refl; lowest = with_one 60 })

slow_unit : IsGreatestUnit ((20, 1) ∷ []) (20, 1)
slow_unit = record {
  common = record { positive = (omega arith, omega arith); divides = refl; lowest = with_one 20 };
  greatest = λ other some all. (first_multiple other (20, 1) [] all).0;
}

pub joined : IsHeadFor (head_of 30 1) (bases_of (thirty 1 ∷ twenty 1 ∷ thirty 1 ∷ [])) (head_of 60 1)
joined = record { whole = λ all. absurd (differ all); finer = λ none. inl ((60, 1), sixty, record { rate = omega arith; scale = omega arith }, refl) }
  where
    differ : false ≡ true → ⊥
    differ e = cc

pub slow : IsHeadFor (head_of 30 1) (bases_of (twenty 1 ∷ [])) (head_of 20 1)
slow = record { whole = λ all. absurd (differ all); finer = λ none. inl ((20, 1), slow_unit, record { rate = omega arith; scale = omega arith }, refl) }
  where
    differ : false ≡ true → ⊥
    differ e = cc
