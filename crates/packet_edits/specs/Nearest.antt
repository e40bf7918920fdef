-- The first and the last index of a range at which something holds.
use Rattle.std.specs.Prelude.{◌≡◌, ℕ, ◌<◌, ◌≤◌, Bool, true, false, Option, Some, None}

-- it holds nowhere from `from` up to `end`
abbrev pub HoldsNowhere : (ℕ → Bool) → ℕ → ℕ → Type 0
HoldsNowhere holds from end = (p : ℕ) → from ≤ p → p < end → holds p ≡ false

-- it holds at this index of the range, and at none before it
pub record IsFirstAt (holds : ℕ → Bool) (from end place : ℕ) : Type 0 where
  pub starts : from ≤ place
  pub within : place < end
  pub here : holds place ≡ true
  pub earlier : (p : ℕ) → from ≤ p → p < place → holds p ≡ false

-- it holds at this index of the range, and at none after it
pub record IsLastAt (holds : ℕ → Bool) (from end place : ℕ) : Type 0 where
  pub starts : from ≤ place
  pub within : place < end
  pub here : holds place ≡ true
  pub later : (p : ℕ) → place < p → p < end → holds p ≡ false

-- the first index from `from` up to `end` at which it holds, or none
abbrev pub IsFirst : (ℕ → Bool) → ℕ → ℕ → Option ℕ → Type 0
IsFirst holds from end None = HoldsNowhere holds from end
IsFirst holds from end (Some place) = IsFirstAt holds from end place

-- the last index from `from` up to `end` at which it holds, or none
abbrev pub IsLast : (ℕ → Bool) → ℕ → ℕ → Option ℕ → Type 0
IsLast holds from end None = HoldsNowhere holds from end
IsLast holds from end (Some place) = IsLastAt holds from end place
