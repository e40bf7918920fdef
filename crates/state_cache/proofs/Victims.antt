-- The victim is unique, and worked victims.
use Rattle.std.proofs.Common.{◌≡◌, ℕ, zero, suc, ◌<◌, ◌⊎◌, inl, inr, [], ◌∷◌, List, Some, slice_get, refl, sym, subst, arith}
use Rattle.state_cache.specs.declared.savings.Saving.{Saving}
use Rattle.state_cache.specs.EvictionLaws.{VictimIsUnique, WorkedVictims, cached_between}
use Rattle.state_cache.specs.Evictions.{IsVictim, SavesLess}
use Rattle.state_cache.proofs.Runs.{same_or_not, up_to_or_behind}

not_before : (ss : List Saving) (uses v w : ℕ) (a : IsVictim ss uses v) (b : IsVictim ss uses w) → v < w → ⊥
not_before ss uses v w a b h = a.least w b.saving b.is_there (b.first v a.saving h a.is_there)

by_index : (ss : List Saving) (uses v w : ℕ) (a : IsVictim ss uses v) (b : IsVictim ss uses w) → (v ≡ w) ⊎ (v ≡ w → ⊥) → v ≡ w
by_index ss uses v w a b (inl same) = same
by_index ss uses v w a b (inr other) = elim (up_to_or_behind w v) [
  | inl up ↦ absurd (not_before ss uses w v b a (omega (arith, up, other)))
  | inr behind ↦ absurd (not_before ss uses v w a b behind)
]

pub victim_is_unique : VictimIsUnique
victim_is_unique ss uses v w a b = by_index ss uses v w a b (same_or_not v w)

oldest_least : (n : ℕ) (other : Saving) → slice_get (cached_between 2 2 5 ∷ cached_between 2 2 1 ∷ cached_between 2 2 3 ∷ []) n ≡ Some other → SavesLess 8 other (cached_between 2 2 1) → ⊥
oldest_least zero other h less = let is : cached_between 2 2 5 ≡ other = cc in let no = subst (λ (x : Saving). SavesLess 8 x (cached_between 2 2 1)) (sym is) less in absurd (omega (arith, no))
oldest_least (suc zero) other h less = let is : cached_between 2 2 1 ≡ other = cc in let no = subst (λ (x : Saving). SavesLess 8 x (cached_between 2 2 1)) (sym is) less in absurd (omega (arith, no))
oldest_least (suc (suc zero)) other h less = let is : cached_between 2 2 3 ≡ other = cc in let no = subst (λ (x : Saving). SavesLess 8 x (cached_between 2 2 1)) (sym is) less in absurd (omega (arith, no))
oldest_least (suc (suc (suc n))) other h less = cc

oldest_first : (n : ℕ) (other : Saving) → n < 1 → slice_get (cached_between 2 2 5 ∷ cached_between 2 2 1 ∷ cached_between 2 2 3 ∷ []) n ≡ Some other → SavesLess 8 (cached_between 2 2 1) other
oldest_first zero other low h = let is : cached_between 2 2 5 ≡ other = cc in subst (λ (x : Saving). SavesLess 8 (cached_between 2 2 1) x) is (omega arith)
oldest_first (suc n) other low h = absurd (omega (arith, low))

saved_least : (n : ℕ) (other : Saving) → slice_get (cached_between 10 10 1 ∷ cached_between 1 1 5 ∷ []) n ≡ Some other → SavesLess 8 other (cached_between 1 1 5) → ⊥
saved_least zero other h less = let is : cached_between 10 10 1 ≡ other = cc in let no = subst (λ (x : Saving). SavesLess 8 x (cached_between 1 1 5)) (sym is) less in absurd (omega (arith, no))
saved_least (suc zero) other h less = let is : cached_between 1 1 5 ≡ other = cc in let no = subst (λ (x : Saving). SavesLess 8 x (cached_between 1 1 5)) (sym is) less in absurd (omega (arith, no))
saved_least (suc (suc n)) other h less = cc

saved_first : (n : ℕ) (other : Saving) → n < 1 → slice_get (cached_between 10 10 1 ∷ cached_between 1 1 5 ∷ []) n ≡ Some other → SavesLess 8 (cached_between 1 1 5) other
saved_first zero other low h = let is : cached_between 10 10 1 ≡ other = cc in subst (λ (x : Saving). SavesLess 8 (cached_between 1 1 5) x) is (omega arith)
saved_first (suc n) other low h = absurd (omega (arith, low))

equal_least : (n : ℕ) (other : Saving) → slice_get (cached_between 2 2 5 ∷ cached_between 1 1 8 ∷ []) n ≡ Some other → SavesLess 8 other (cached_between 2 2 5) → ⊥
equal_least zero other h less = let is : cached_between 2 2 5 ≡ other = cc in let no = subst (λ (x : Saving). SavesLess 8 x (cached_between 2 2 5)) (sym is) less in absurd (omega (arith, no))
equal_least (suc zero) other h less = let is : cached_between 1 1 8 ≡ other = cc in let no = subst (λ (x : Saving). SavesLess 8 x (cached_between 2 2 5)) (sym is) less in absurd (omega (arith, no))
equal_least (suc (suc n)) other h less = cc

pub worked_victims : WorkedVictims
worked_victims = record {
  oldest = record { saving = cached_between 2 2 1; is_there = refl; least = oldest_least; first = oldest_first };
  least_saved = record { saving = cached_between 1 1 5; is_there = refl; least = saved_least; first = saved_first };
  first_of_equals = record { saving = cached_between 2 2 5; is_there = refl; least = equal_least; first = λ n other low here. absurd (omega (arith, low)) };
}
