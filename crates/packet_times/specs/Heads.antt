-- The head of an export.
use Rattle.std.specs.Prelude.{◌≡◌, ◌⊎◌, ℕ, ◌*◌, ◌%◌, ◌^◌, ◌<◌, ◌==◌, Bool, true, false, List}
use Rattle.std.specs.List.{list_all}
use Rattle.std.specs.Int.{IsGcd}
use Rattle.stream_files.specs.declared.streams.Head.{Head}
use Rattle.packet_times.specs.Sums.{base_of_head}

-- neither number of a base is 0
abbrev pub IsPositive : ℕ × ℕ → Type 0
IsPositive base = (0 < base.0) × (0 < base.1)

-- the unit of a base, scale / rate seconds, is a whole number of these units
abbrev pub is_multiple : ℕ × ℕ → ℕ × ℕ → Bool
is_multiple unit base = (base.1 * unit.0) % (base.0 * unit.1) == 0

-- the units of all these bases are whole numbers of these units
abbrev pub are_multiples : ℕ × ℕ → List (ℕ × ℕ) → Bool
are_multiples unit bases = list_all (is_multiple unit) bases

-- a unit of which the units of all these bases are whole numbers, in lowest terms
pub record IsCommonUnit (bases : List (ℕ × ℕ)) (unit : ℕ × ℕ) : Type 0 where
  pub positive : IsPositive unit
  pub divides : are_multiples unit bases ≡ true
  pub lowest : IsGcd unit.0 unit.1 1

-- the greatest of them: it is a whole number of any other
pub record IsGreatestUnit (bases : List (ℕ × ℕ)) (unit : ℕ × ℕ) : Type 0 where
  pub common : IsCommonUnit bases unit
  pub greatest : (other : ℕ × ℕ) → IsPositive other → are_multiples other bases ≡ true → is_multiple other unit ≡ true

-- the rate and the scale are numbers of 32 bits
pub record Fits (unit : ℕ × ℕ) : Type 0 where
  pub rate : unit.0 < 2 ^ 32
  pub scale : unit.1 < 2 ^ 32

-- no such unit fits
abbrev pub HasNoUnit : List (ℕ × ℕ) → Type 0
HasNoUnit bases = (unit : ℕ × ℕ) → IsCommonUnit bases unit → Fits unit → ⊥

-- a base in lowest terms
pub record IsLowest (base unit : ℕ × ℕ) : Type 0 where
  pub positive : IsPositive unit
  pub same : unit.0 * base.1 ≡ unit.1 * base.0
  pub lowest : IsGcd unit.0 unit.1 1

abbrev pub HasNoLowest : ℕ × ℕ → Type 0
HasNoLowest base = (unit : ℕ × ℕ) → IsLowest base unit → Fits unit → ⊥

-- a head with another time base
abbrev pub with_unit : Head → ℕ × ℕ → Head
with_unit head unit = record head { rate = unit.0; scale = unit.1 }

-- the head of a file of frames whose durations have these bases: the head itself if their units are whole numbers of its unit, or else one with
-- the greatest unit of which they are, if one fits
pub record IsHeadFor (head : Head) (bases : List (ℕ × ℕ)) (result : Head) : Type 0 where
  pub whole : are_multiples (base_of_head head) bases ≡ true → result ≡ head
  pub finer : are_multiples (base_of_head head) bases ≡ false
      → ((unit : ℕ × ℕ) × IsGreatestUnit bases unit × Fits unit × (result ≡ with_unit head unit))
      ⊎ ((result ≡ head) × HasNoUnit bases)
