-- Laws about the times of frames.
use Rattle.std.specs.Prelude.{◌≡◌, ℕ, ◌+◌, ◌-◌, ◌*◌, ◌/◌, ◌^◌, ◌<◌, ◌≤◌, min, List, All, take, length, sum_by}
use Prim.Native.Nat.{◌∣◌}
use Rattle.stream_files.specs.declared.streams.Head.{Head}
use Rattle.packet_times.specs.declared.durations.Duration.{Duration}
use Rattle.packet_times.specs.Sums.{base_of, base_of_head, bases_of, due, stamp_at, units_of}

-- a frame lasts at least one unit of a head
abbrev pub LastsAUnit : Head → Duration → Type 0
LastsAUnit head duration = (base_of duration).0 * (base_of_head head).1 ≤ duration.units * ((base_of duration).1 * (base_of_head head).0)

-- frames that do, and whose units are numbers of 128 bits together
pub record LastUnits (head : Head) (durations : List Duration) : Type 0 where
  pub each : All (LastsAUnit head) durations
  pub few : sum_by (λ duration. duration.units) durations < 2 ^ 128

-- then each frame has the time after the frames before it as its time stamp, up to the greatest one
abbrev pub StampsAreDue : Type 0
StampsAreDue = (head : Head) (durations : List Duration) (n : ℕ) → LastUnits head durations → n ≤ length durations
    → stamp_at head durations n ≡ min (2 ^ 64 - 1) (due head (take n durations))

-- a number of parts of a unit of a head such that the unit of each of these bases is a whole number of the parts
abbrev pub IsWhole : Head → ℕ → ℕ × ℕ → Type 0
IsWhole head parts base = base.0 * (base_of_head head).1 ∣ parts

-- the exact time after frames, in such parts
abbrev pub exact_parts : Head → ℕ → List Duration → ℕ
exact_parts head parts durations = sum_by (λ base. units_of base durations * (base.1 * (base_of_head head).0) * (parts / (base.0 * (base_of_head head).1))) (bases_of durations)

-- the time after frames in units of a head is within half a unit of the exact time for each base that is used
pub record IsNear (head : Head) (durations : List Duration) (parts : ℕ) : Type 0 where
  pub above : 2 * (parts * due head durations) ≤ 2 * exact_parts head parts durations + length (bases_of durations) * parts
  pub below : 2 * exact_parts head parts durations ≤ 2 * (parts * due head durations) + length (bases_of durations) * parts

abbrev pub TimesAreNear : Type 0
TimesAreNear = (head : Head) (durations : List Duration) (parts : ℕ) → sum_by (λ duration. duration.units) durations < 2 ^ 128 → All (IsWhole head parts) (bases_of durations) → IsNear head durations parts

-- frames whose durations have the base of a head
abbrev pub HasBaseOf : Head → Duration → Type 0
HasBaseOf head duration = base_of duration ≡ base_of_head head

-- the time after them is the sum of their units
abbrev pub UnitsAddUp : Type 0
UnitsAddUp = (head : Head) (durations : List Duration) → All (HasBaseOf head) durations → sum_by (λ duration. duration.units) durations < 2 ^ 128
    → due head durations ≡ sum_by (λ duration. duration.units) durations
