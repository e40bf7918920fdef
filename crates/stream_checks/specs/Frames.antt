-- The frames of a stream: the shown packets whose outcome is good.
use Rattle.std.specs.Prelude.{ℕ, if◌then◌else◌, List, map, Option, Some, None, Ok, Err}
use Rattle.std.specs.List.{filter_map, zip}
use Rattle.vp8_tables.specs.Tables.{TableEntries}
use Rattle.stream_files.specs.declared.packets.Packet.{Packet}
use Rattle.frame_header.specs.Tags.{is_shown}
use Rattle.stream_steps.specs.Decoding.{Outcome, Progress, outcomes_from}
use Rattle.stream_checks.specs.HashLines.{Frame}

-- the frame of a packet, if it is shown and its outcome is good
abbrev pub frame_of : Packet → Outcome → Option Frame
frame_of packet (Ok decoded) = if is_shown packet.bytes then Some (record { stamp = packet.stamp; picture = decoded.1 }) else None
frame_of packet (Err broken) = None

-- the frames of packets; the first has the index `place`
abbrev pub frames_from : TableEntries → ℕ → Progress → List Packet → List Frame
frames_from tables place progress packets =
    filter_map (λ pair. frame_of pair.0 pair.1) (zip packets (outcomes_from tables place progress (map (λ packet. packet.bytes) packets)))

-- the frames of a stream
abbrev pub frames_of : TableEntries → List Packet → List Frame
frames_of tables packets = frames_from tables 0 (Ok None) packets
