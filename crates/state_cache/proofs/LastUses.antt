-- The last uses of the outcomes, when what they save changes.
use Rattle.std.proofs.Common.{◌≡◌, ℕ, zero, suc, ◌<◌, List, [], ◌∷◌, Option, Some, None, IfSome, length, map, slice_get, slice_set, refl, sym, ap, arith}
use Rattle.state_cache.specs.declared.savings.Saving.{Saving}
use Rattle.state_cache.specs.Evictions.{last_use}

pub same_uses : (ss : List Saving) (i : ℕ) (x : Saving) → IfSome (slice_get ss i) (λ (s : Saving). s.used ≡ x.used) → map last_use (slice_set ss i x) ≡ map last_use ss
same_uses [] i x h = refl
same_uses (s ∷ ss) zero x h = ap (λ (u : ℕ). u ∷ map last_use ss) (sym h)
same_uses (s ∷ ss) (suc i) x h = ap (λ (us : List ℕ). s.used ∷ us) (same_uses ss i x h)

pub use_of_other : (ss : List Saving) (i n : ℕ) (x : Saving) → (n ≡ i → ⊥) → slice_get (map last_use (slice_set ss i x)) n ≡ slice_get (map last_use ss) n
use_of_other [] i n x h = refl
use_of_other (s ∷ ss) zero zero x h = absurd (h refl)
use_of_other (s ∷ ss) zero (suc n) x h = refl
use_of_other (s ∷ ss) (suc i) zero x h = refl
use_of_other (s ∷ ss) (suc i) (suc n) x h = use_of_other ss i n x (λ same. h (ap suc same))

pub use_set : (ss : List Saving) (i : ℕ) (x : Saving) → i < length ss → slice_get (map last_use (slice_set ss i x)) i ≡ Some x.used
use_set [] i x h = absurd (omega (arith, h))
use_set (s ∷ ss) zero x h = refl
use_set (s ∷ ss) (suc i) x h = use_set ss i x (omega (arith, h))

pub use_there : (ss : List Saving) (i : ℕ) (x : Saving) → i < length ss → IfSome (slice_get ss i) (λ (s : Saving). s ≡ x) → slice_get (map last_use ss) i ≡ Some x.used
use_there [] i x h same = absurd (omega (arith, h))
use_there (s ∷ ss) zero x h same = ap (λ (y : Saving). Some y.used) same
use_there (s ∷ ss) (suc i) x h same = use_there ss i x (omega (arith, h)) same

pub same_use : (ss ts : List Saving) (n : ℕ) → slice_get ss n ≡ slice_get ts n → slice_get (map last_use ss) n ≡ slice_get (map last_use ts) n
same_use [] [] n h = refl
same_use [] (t ∷ ts) zero h = cc
same_use [] (t ∷ ts) (suc n) h = same_use [] ts n h
same_use (s ∷ ss) [] zero h = cc
same_use (s ∷ ss) [] (suc n) h = same_use ss [] n h
same_use (s ∷ ss) (t ∷ ts) zero h = let is : s ≡ t = cc in ap (λ (y : Saving). Some y.used) is
same_use (s ∷ ss) (t ∷ ts) (suc n) h = same_use ss ts n h

pub same_last_use : (o : Option Saving) (x : Saving) → IfSome o (λ (s : Saving). s ≡ x) → IfSome o (λ (s : Saving). s.used ≡ x.used)
same_last_use None x h = tt
same_last_use (Some s) x h = ap (λ (y : Saving). y.used) h
