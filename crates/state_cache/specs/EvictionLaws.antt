-- Laws about the outcome that a full cache drops.
use Rattle.std.specs.Prelude.{◌≡◌, ℕ, List, [], ◌∷◌}
use Rattle.state_cache.specs.declared.savings.Saving.{Saving}
use Rattle.state_cache.specs.Evictions.{IsVictim}

-- an outcome so many packets after the one cached before it and before the one after it, with the number of uses at its last use
abbrev pub cached_between : ℕ → ℕ → ℕ → Saving
cached_between before after used = record { used = used; before = before; after = after; previous = 65535; next = 65535 }

-- after 8 uses. Of outcomes that are evenly spaced, the one that was used longest ago is dropped; one that is alone among many
-- packets outlives one that was used just now and is next to others; and of two that save 4 in age 4 and 1 in age 1, the first
pub record WorkedVictims : Type 0 where
  pub oldest : IsVictim (cached_between 2 2 5 ∷ cached_between 2 2 1 ∷ cached_between 2 2 3 ∷ []) 8 1
  pub least_saved : IsVictim (cached_between 10 10 1 ∷ cached_between 1 1 5 ∷ []) 8 1
  pub first_of_equals : IsVictim (cached_between 2 2 5 ∷ cached_between 1 1 8 ∷ []) 8 0

-- there is one victim
abbrev pub VictimIsUnique : Type 0
VictimIsUnique = (savings : List Saving) (uses victim other : ℕ) → IsVictim savings uses victim → IsVictim savings uses other → victim ≡ other
