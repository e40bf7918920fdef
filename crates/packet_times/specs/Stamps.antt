-- Packets with the time stamps of frames.
use Rattle.std.specs.Prelude.{◌≡◌, ◌≤◌, ℕ, if◌then◌else◌, List, [], ◌∷◌, drop, take, length, filter, slice_get, slice_index_or, Some}
use Rattle.frame_header.specs.Tags.{is_shown}
use Rattle.stream_files.specs.declared.streams.Head.{Head}
use Rattle.stream_files.specs.declared.packets.Packet.{Packet}
use Rattle.packet_times.specs.declared.durations.Duration.{Duration}
use Rattle.packet_times.specs.Sums.{stamp_at, stamps_of}

-- the time stamp of the next frame, and those of the frames after it once a packet shows it
abbrev pub first_stamp : List ℕ → ℕ
first_stamp stamps = slice_index_or stamps 0 0

abbrev pub stamps_after : List ℕ → List ℕ → List ℕ
stamps_after packet stamps = if is_shown packet then drop 1 stamps else stamps

-- packets with the time stamps of the frames that they show; a hidden packet has that of the next frame
abbrev pub stamped : List ℕ → List (List ℕ) → List Packet
stamped stamps [] = []
stamped stamps (packet ∷ packets) = record { stamp = first_stamp stamps; bytes = packet } ∷ stamped (stamps_after packet stamps) packets

-- how many frames packets show
abbrev pub shown_count : List (List ℕ) → ℕ
shown_count packets = length (filter is_shown packets)

-- each packet has the time stamp of the frame after those that the packets before it show
abbrev pub StampsAreOfFrames : Type 0
StampsAreOfFrames = (head : Head) (durations : List Duration) (packets : List (List ℕ)) (place : ℕ) (packet : Packet)
    → shown_count packets ≤ length durations → slice_get (stamped (stamps_of head durations) packets) place ≡ Some packet
    → packet.stamp ≡ stamp_at head durations (shown_count (take place packets))
