-- Which cached outcome is dropped if the cache is full.
use Rattle.std.specs.Prelude.{◌≡◌, ℕ, ◌+◌, ◌-◌, ◌*◌, ◌^◌, ◌<◌, ◌⊎◌, min, List, length, slice_get, take, Option, Some, None, IsSome}
use Rattle.std.specs.Map.{lookup}
use Rattle.state_cache.specs.declared.outcomes.Kept.{Kept}
use Rattle.state_cache.specs.declared.outcomes.PacketKey.{PacketKey}
use Rattle.state_cache.specs.declared.savings.Saving.{Saving}
use Rattle.state_cache.specs.Views.{same_key}

-- what each cached outcome saves, in the order of the outcomes, and the number of uses of the cache
pub record SavingsValue : Type 0 where
  pub list : List Saving
  pub uses : ℕ

-- the steps that an outcome saves if each packet is asked for once: without it, each packet from its own up to the next cached
-- one is as many steps further away as the outcome is after the one cached before it
abbrev pub saved : Saving → ℕ
saved saving = saving.before * saving.after

-- the number of uses of the cache once an outcome was last used
abbrev pub last_use : Saving → ℕ
last_use saving = saving.used

-- the number of uses after one more, as far as 64 bits go
abbrev pub one_use_more : ℕ → ℕ
one_use_more uses = min (uses + 1) (2 ^ 64 - 1)

-- the age of an outcome: 1, and the number of uses of the cache since it was last used, as far as 32 bits go
abbrev pub age : ℕ → Saving → ℕ
age uses saving = min (uses - saving.used) (2 ^ 32 - 2) + 1

-- one outcome saves less over its age than another, as fractions: saved / age < saved / age
abbrev pub SavesLess : ℕ → Saving → Saving → Type 0
SavesLess uses saving other = saved saving * age uses other < saved other * age uses saving

-- the index of the outcome to drop: none saves less over its age, and each one before it saves more
pub record IsVictim (savings : List Saving) (uses victim : ℕ) : Type 0 where
  pub saving : Saving
  pub is_there : slice_get savings victim ≡ Some saving
  pub least : (n : ℕ) (other : Saving) → slice_get savings n ≡ Some other → SavesLess uses other saving → ⊥
  pub first : (n : ℕ) (other : Saving) → n < victim → slice_get savings n ≡ Some other → SavesLess uses saving other

-- the index of the outcome to drop among the first `len` other than the newest one: none of them saves less over its age, and each
-- one before it saves more
pub record IsOtherVictim (savings : List Saving) (uses len newest victim : ℕ) : Type 0 where
  pub saving : Saving
  pub is_there : slice_get savings victim ≡ Some saving
  pub within : victim < len
  pub is_other : victim ≡ newest → ⊥
  pub least : (n : ℕ) (other : Saving) → n < len → (n ≡ newest → ⊥) → slice_get savings n ≡ Some other → SavesLess uses other saving → ⊥
  pub first : (n : ℕ) (other : Saving) → n < victim → (n ≡ newest → ⊥) → slice_get savings n ≡ Some other → SavesLess uses saving other

-- for a new key: none goes if an outcome is cached for it or there is room, else the victim
abbrev pub Evicts : SavingsValue → List (PacketKey × Kept) → ℕ → PacketKey → Option ℕ → Type 0
Evicts savings entries capacity key None = (length entries < capacity) ⊎ IsSome (lookup (same_key key) entries)
Evicts savings entries capacity key (Some victim) =
    (length entries ≡ capacity) × (lookup (same_key key) entries ≡ None) × IsVictim (take (length entries) savings.list) savings.uses victim
