-- Times of frames: the units of their durations are summed for each time base, and each sum is rounded once.
use Rattle.std.specs.Prelude.{ℕ, zero, suc, ◌+◌, ◌-◌, ◌*◌, ◌/◌, ◌^◌, ◌==◌, ◌&&◌, Bool, max, min, if◌then◌else◌, List, [], ◌∷◌, ◌++◌, map, take, length, filter, fold, sum_by}
use Rattle.std.specs.List.{list_any, range_with_len}
use Rattle.stream_files.specs.declared.streams.Head.{Head}
use Rattle.packet_times.specs.declared.durations.Duration.{Duration}
use Rattle.packet_times.specs.Durations.{frame_rate}

-- a time base: its unit is scale / rate seconds
abbrev pub base_of : Duration → ℕ × ℕ
base_of duration = frame_rate duration.rate duration.scale

abbrev pub base_of_head : Head → ℕ × ℕ
base_of_head head = frame_rate head.rate head.scale

abbrev pub is_base : ℕ × ℕ → ℕ × ℕ → Bool
is_base one other = one.0 == other.0 && one.1 == other.1

-- a list with a base, which is appended if it is not among them
abbrev pub with_base : List (ℕ × ℕ) → ℕ × ℕ → List (ℕ × ℕ)
with_base bases base = if list_any (is_base base) bases then bases else bases ++ base ∷ []

-- the different bases of durations, in order of first appearance
abbrev pub bases_of : List Duration → List (ℕ × ℕ)
bases_of durations = fold with_base [] (map base_of durations)

-- the sum of the units of the durations with this base; numbers of 128 bits have the sums of 2 ^ 64 packets
abbrev pub units_of : ℕ × ℕ → List Duration → ℕ
units_of base durations = sum_by (λ duration. duration.units) (filter (λ duration. is_base (base_of duration) base) durations)

abbrev pub in_128_bits : ℕ → ℕ
in_128_bits units = min (2 ^ 128 - 1) units

-- units of one base as units of another, rounded half up
abbrev pub rescaled : ℕ → ℕ × ℕ → ℕ × ℕ → ℕ
rescaled units from to = (2 * (units * (from.1 * to.0)) + from.0 * to.1) / (2 * (from.0 * to.1))

-- the time after these frames in units of a head: the sum over the bases
abbrev pub due : Head → List Duration → ℕ
due head durations = sum_by (λ base. rescaled (in_128_bits (units_of base durations)) base (base_of_head head)) (bases_of durations)

-- the time stamp of the frame at an index: the time after the frames before it, or one more than the time stamp before it if that is
-- greater; at most the greatest time stamp
abbrev pub stamp_at : Head → List Duration → ℕ → ℕ
stamp_at head durations zero = 0
stamp_at head durations (suc n) = min (2 ^ 64 - 1) (max (due head (take (suc n) durations)) (stamp_at head durations n + 1))

-- the time stamps of frames, and that of a frame after them
abbrev pub stamps_of : Head → List Duration → List ℕ
stamps_of head durations = map (stamp_at head durations) (range_with_len 0 (length durations + 1))
