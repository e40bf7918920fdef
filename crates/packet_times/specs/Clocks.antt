-- A clock that has shown frames.
use Rattle.std.specs.Prelude.{◌≡◌, ℕ, ◌+◌, ◌-◌, ◌^◌, Bool, if◌then◌else◌, min, List, [], ◌∷◌, ◌++◌, map, length}
use Rattle.std.specs.List.{list_any}
use Rattle.stream_files.specs.declared.streams.Head.{Head}
use Rattle.packet_times.specs.declared.clocks.Clock.{Clock}
use Rattle.packet_times.specs.declared.clocks.Sum.{Sum}
use Rattle.packet_times.specs.declared.durations.Duration.{Duration}
use Rattle.packet_times.specs.Sums.{base_of, bases_of, in_128_bits, is_base, rescaled, stamp_at, units_of}

-- a sum in units of a base
abbrev pub in_units : ℕ × ℕ → Sum → ℕ
in_units to sum = min (2 ^ 64 - 1) (rescaled sum.units sum.base to)

abbrev pub has_base : ℕ × ℕ → Sum → Bool
has_base base sum = is_base base sum.base

-- sums with one of this base
abbrev pub opened : ℕ × ℕ → List Sum → List Sum
opened base sums = if list_any (has_base base) sums then sums else sums ++ record { base = base; units = 0 } ∷ []

-- a sum with the units of a duration
abbrev pub added : Duration → Sum → Sum
added duration sum = if has_base (base_of duration) sum then record sum { units = in_128_bits (sum.units + duration.units) } else sum

-- the sum of a base
abbrev pub sum_of : List Duration → ℕ × ℕ → Sum
sum_of durations base = record { base = base; units = in_128_bits (units_of base durations) }

-- the clock of a file with this head has shown frames with these durations, and has the time stamp of the next one
pub record HasShown (head : Head) (durations : List Duration) (clock : Clock) : Type 0 where
  pub of_file : clock.head ≡ head
  pub sums : clock.sums.items ≡ map (sum_of durations) (bases_of durations)
  pub stamp : clock.stamp ≡ stamp_at head durations (length durations)
