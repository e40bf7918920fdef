-- Counts of flagged packets, by which a store finds frames and key packets.
use Rattle.std.specs.Prelude.{◌≡◌, ℕ, zero, suc, ◌+◌, ◌*◌, ◌/◌, ◌<◌, ◌≤◌, Bool, false, List, [], ◌∷◌, length, if◌then◌else◌, slice_get, slice_index}
use Rattle.std.specs.Option.{option_map_or}

-- whether the packet at an index is flagged
abbrev pub flag_at : List Bool → ℕ → Bool
flag_at flags place = option_map_or (λ flag. flag) (slice_get flags place) false

-- one more if the packet is flagged
abbrev pub count_with : ℕ → Bool → ℕ
count_with before flag = if flag then before + 1 else before

-- how many of the first n packets are flagged
abbrev pub flagged_before : ℕ → List Bool → ℕ
flagged_before zero flags = 0
flagged_before (suc n) [] = 0
flagged_before (suc n) (flag ∷ flags) = count_with (flagged_before n flags) flag

-- the indexes of the flagged packets; the first packet of the list has the index `place`
abbrev pub indexes_from : ℕ → List Bool → List ℕ
indexes_from place [] = []
indexes_from place (flag ∷ flags) = if flag then place ∷ indexes_from (place + 1) flags else indexes_from (place + 1) flags

-- for each whole run of 1,024 packets, how many packets are flagged up to its end; there are at most 1,048,576 packets
pub record AreCounts (counts : List ℕ) (flags : List Bool) : Type 0 where
  pub many : length counts ≡ length flags / 1024
  pub each : (k : ℕ) → k < length counts → slice_index counts k ≡ flagged_before ((k + 1) * 1024) flags
  pub few : length flags ≤ 1048576
