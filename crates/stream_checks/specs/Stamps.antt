-- Time stamps: the step between frames, and stamps that do not go on by it.
use Rattle.std.specs.Prelude.{ℕ, ◌-◌, ◌/◌, ◌==◌, ◌&&◌, ◌||◌, Bool, true, false, not, nat_le, nat_lt, if◌then◌else◌, List, [], ◌∷◌, ◌++◌, length, Option, Some, None}
use Rattle.stream_files.specs.declared.packets.Packet.{Packet}
use Rattle.frame_header.specs.Tags.{has_key_tag, is_shown}
use Rattle.packet_times.specs.Medians.{median_of}
use Rattle.stream_checks.specs.declared.finding.Trouble.{Trouble}
use Rattle.stream_checks.specs.declared.finding.Trouble.TheVariants.{StampRepeats, StampGoesBack, StampSkips, BreaksStep}
use Rattle.stream_checks.specs.declared.stamps.Pace.{Pace}
use Rattle.stream_checks.specs.declared.stamps.Stamps.{Stamps}

-- the time stamp of a shown packet
abbrev pub shown_stamp : Packet → List ℕ
shown_stamp packet = if is_shown packet.bytes then packet.stamp ∷ [] else []

-- those of the shown packets
abbrev pub shown_stamps : List Packet → List ℕ
shown_stamps [] = []
shown_stamps (packet ∷ packets) = shown_stamp packet ++ shown_stamps packets

-- how far a time stamp is above the one before it, if it is
abbrev pub step_to : ℕ → ℕ → List ℕ
step_to before stamp = if nat_lt before stamp then (stamp - before) ∷ [] else []

-- the steps between time stamps in sequence that go forward
abbrev pub steps_from : ℕ → List ℕ → List ℕ
steps_from before [] = []
steps_from before (stamp ∷ stamps) = step_to before stamp ++ steps_from stamp stamps

abbrev pub steps_of : List ℕ → List ℕ
steps_of [] = []
steps_of (first ∷ stamps) = steps_from first stamps

-- a time stamp that is one step above another
abbrev pub is_step : ℕ → ℕ → ℕ → Bool
is_step step before stamp = nat_lt before stamp && (stamp - before) == step

-- which steps between time stamps in sequence are odd: not this one
abbrev pub odd_from : ℕ → ℕ → List ℕ → List Bool
odd_from step before [] = []
odd_from step before (stamp ∷ stamps) = not (is_step step before stamp) ∷ odd_from step stamp stamps

abbrev pub odd_steps : ℕ → List ℕ → List Bool
odd_steps step [] = []
odd_steps step (first ∷ stamps) = odd_from step first stamps

-- no step is odd
abbrev pub are_even : List Bool → Bool
are_even [] = true
are_even (odd ∷ rest) = if odd then false else are_even rest

-- or at most the first two
abbrev pub are_even_after_two : List Bool → Bool
are_even_after_two (first ∷ second ∷ rest) = are_even rest
are_even_after_two rest = true

-- odd steps are at one place: none comes after the two that follow the first
abbrev pub is_one_place : List Bool → Bool
is_one_place [] = true
is_one_place (odd ∷ rest) = if odd then are_even_after_two rest else is_one_place rest

-- a constant step: 16 steps or more, which are even except at one place
abbrev pub is_constant : List Bool → Bool
is_constant odd = nat_le 16 (length odd) && is_one_place odd

-- how these time stamps go on: by the median of their steps, of which half or more are no longer, and whether it is constant
abbrev pub pace_over : List ℕ → Pace
pace_over stamps = record { step = median_of (steps_of stamps); is_constant = is_constant (odd_steps (median_of (steps_of stamps)) stamps) }

-- how those of the shown packets do
abbrev pub pace_of : List Packet → Pace
pace_of packets = pace_over (shown_stamps packets)

-- the time stamp of the packet with index `place` goes on from that of the packet with index `at`: it is above it, by no more than
-- a step for each packet between them and one more, less the last unit
abbrev pub goes_on : ℕ → ℕ → ℕ → ℕ → ℕ → Bool
goes_on step place before at stamp = nat_lt before stamp && nat_le ((stamp - before) / step) (place - at)

-- from the last shown packet; or, where that one's was odd, from the last whose was not
abbrev pub is_expected : ℕ → ℕ → Stamps → ℕ → Bool
is_expected step place stamps stamp = goes_on step place stamps.last stamps.last_at stamp || goes_on step place stamps.even stamps.even_at stamp

-- how an odd time stamp of a shown packet differs from that of the shown packet before it
abbrev pub odd_stamp : Stamps → ℕ → Trouble
odd_stamp stamps stamp =
    if stamp == stamps.last then StampRepeats stamp else if nat_lt stamp stamps.last then StampGoesBack stamp stamps.last else StampSkips stamp stamps.last

-- an odd step to an inter packet where the step is constant: packets before it, on which its samples depend, are lost or in another order.
-- A key packet depends on none, and a packet that repeats a time stamp may be inserted
abbrev pub is_break : Pace → Stamps → Packet → Bool
is_break pace stamps packet =
    pace.is_constant && not (has_key_tag packet.bytes) && not (packet.stamp == stamps.last) && not (is_step pace.step stamps.last packet.stamp)

abbrev pub shown_trouble : Pace → ℕ → Stamps → Packet → Option Trouble
shown_trouble pace place stamps packet =
    if is_break pace stamps packet then Some (BreaksStep packet.stamp stamps.last pace.step)
    else if is_expected pace.step place stamps packet.stamp then None
    else Some (odd_stamp stamps packet.stamp)

-- a hidden packet is only compared in order
abbrev pub stamp_trouble : Pace → ℕ → Stamps → Packet → Option Trouble
stamp_trouble pace place stamps packet =
    if is_shown packet.bytes then shown_trouble pace place stamps packet
    else (if nat_lt packet.stamp stamps.last then Some (StampGoesBack packet.stamp stamps.last) else None)

-- the first shown packet has nothing before it
abbrev pub stamp_trouble_in : Pace → ℕ → Option Stamps → Packet → Option Trouble
stamp_trouble_in pace place None packet = None
stamp_trouble_in pace place (Some stamps) packet = stamp_trouble pace place stamps packet

-- the time stamps after a shown packet
abbrev pub first_stamps : ℕ → ℕ → Stamps
first_stamps place stamp = record { last = stamp; last_at = place; even = stamp; even_at = place }

abbrev pub stamps_by : ℕ → ℕ → Option Stamps → ℕ → Stamps
stamps_by step place None stamp = first_stamps place stamp
stamps_by step place (Some stamps) stamp =
    if is_expected step place stamps stamp then first_stamps place stamp else record stamps { last = stamp; last_at = place }

abbrev pub stamps_after : ℕ → ℕ → Option Stamps → Packet → Option Stamps
stamps_after step place stamps packet = if is_shown packet.bytes then Some (stamps_by step place stamps packet.stamp) else stamps
