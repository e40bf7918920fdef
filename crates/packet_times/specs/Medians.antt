-- The step between frames of a file.
use Rattle.std.specs.Prelude.{ℕ, ◌-◌, ◌*◌, ◌&&◌, Bool, nat_le, nat_lt, max, min, if◌then◌else◌, List, [], ◌∷◌, ◌++◌, length, filter, count_by, Option, Some, None}
use Rattle.stream_files.specs.declared.packets.Packet.{Packet}
use Rattle.stream_files.specs.declared.streams.Head.{Head}
use Rattle.frame_header.specs.Tags.{is_shown}
use Rattle.packet_times.specs.declared.durations.Duration.{Duration}

-- the time stamp of the last shown packet
abbrev pub stamp_before : Option ℕ → Packet → Option ℕ
stamp_before before packet = if is_shown packet.bytes then Some packet.stamp else before

-- how far a shown packet's time stamp is above that of the shown packet before it, if it is
abbrev pub step_to : Option ℕ → Packet → List ℕ
step_to None packet = []
step_to (Some before) packet = if is_shown packet.bytes && nat_lt before packet.stamp then (packet.stamp - before) ∷ [] else []

-- the steps between the time stamps of shown packets in sequence that go forward
abbrev pub steps_from : Option ℕ → List Packet → List ℕ
steps_from before [] = []
steps_from before (packet ∷ packets) = step_to before packet ++ steps_from (stamp_before before packet) packets

abbrev pub steps_of : List Packet → List ℕ
steps_of packets = steps_from None packets

-- the least number of a list
abbrev pub least : List ℕ → ℕ
least [] = 0
least (number ∷ []) = number
least (number ∷ next ∷ numbers) = min number (least (next ∷ numbers))

-- at least half of the steps are no longer than this one
abbrev pub is_half : List ℕ → ℕ → Bool
is_half steps step = nat_le (length steps) (2 * count_by (λ other. nat_le other step) steps)

-- the median: the least step for which this is so, and at least 1
abbrev pub median_of : List ℕ → ℕ
median_of steps = max 1 (least (filter (is_half steps) steps))

-- the duration of a packet of a file that has none of its own
abbrev pub usual_of : Head → List Packet → Duration
usual_of head packets = record { units = median_of (steps_of packets); rate = head.rate; scale = head.scale }
