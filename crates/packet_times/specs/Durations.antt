-- How long packets are shown.
use Rattle.std.specs.Prelude.{ℕ, ◌-◌, ◌==◌, ◌||◌, nat_lt, if◌then◌else◌, List, [], ◌∷◌, Option, Some, None}
use Rattle.frame_header.specs.Tags.{is_shown}
use Rattle.stream_files.specs.declared.packets.Packet.{Packet}
use Rattle.packet_times.specs.declared.durations.Duration.{Duration}

-- the time stamp of a packet if it is shown, or else that of the next shown one
abbrev pub shown_or : Packet → Option ℕ → Option ℕ
shown_or packet next = if is_shown packet.bytes then Some packet.stamp else next

-- the time stamp of the first shown packet
abbrev pub next_stamp : List Packet → Option ℕ
next_stamp [] = None
next_stamp (packet ∷ packets) = shown_or packet (next_stamp packets)

-- from a time stamp to the next one, if that is later
abbrev pub units_between : ℕ → Option ℕ → Option ℕ
units_between stamp None = None
units_between stamp (Some next) = if nat_lt stamp next then Some (next - stamp) else None

-- this many units, or the usual duration if there is no number
abbrev pub in_units_of : Duration → Option ℕ → Duration
in_units_of usual None = usual
in_units_of usual (Some units) = record usual { units = units }

-- the duration of a packet, from its time stamp to that of the next shown packet after it
abbrev pub duration_before : Duration → Packet → List Packet → Duration
duration_before usual packet later = in_units_of usual (units_between packet.stamp (next_stamp later))

abbrev pub durations_of : Duration → List Packet → List Duration
durations_of usual [] = []
durations_of usual (packet ∷ packets) = duration_before usual packet packets ∷ durations_of usual packets

-- a frame rate and its scale; 30 frames a second if one of the numbers is 0, as the first line of a YUV4MPEG2 stream has it
abbrev pub frame_rate : ℕ → ℕ → ℕ × ℕ
frame_rate rate scale = if rate == 0 || scale == 0 then (30, 1) else (rate, scale)

-- a frame of 30 a second
abbrev pub one_frame : Duration
one_frame = record { units = 1; rate = 30; scale = 1 }
