-- The findings at a packet: by the packets around it, what is known after it, and where decoding ends in its partitions.
use Rattle.std.specs.Prelude.{ℕ, ◌+◌, ◌==◌, ◌&&◌, Bool, true, false, not, if◌then◌else◌, List, [], ◌++◌, ◌∷◌, map, length, Option, Some, None, Ok, Err}
use Rattle.std.specs.Int.{from_bool}
use Rattle.std.specs.List.{flat_map, prefix_len}
use Rattle.std.specs.Str.{bytes_eq}
use Rattle.stream_files.specs.declared.packets.Packet.{Packet}
use Rattle.frame_header.specs.declared.cause.Cause.{Cause}
use Rattle.frame_header.specs.Tags.{has_key_tag, is_shown, key_size_of}
use Rattle.vp8_tables.specs.Tables.{TableEntries}
use Rattle.header_bits.specs.Copies.{copy_numbers, no_copies}
use Rattle.header_bits.specs.declared.copies.CopyNumbers.{CopyNumbers}
use Rattle.macroblock_lists.specs.Known.{Knowledge}
use Rattle.macroblock_lists.specs.declared.partition_ends.PartitionEnds.{PartitionEnds}
use Rattle.stream_checks.specs.Breaks.{break_in, progresses_from}
use Rattle.stream_checks.specs.Listed.{found, listed}
use Rattle.stream_checks.specs.Partitions.{ends_from, partition_findings}
use Rattle.stream_checks.specs.Stamps.{pace_of, stamp_trouble_in, stamps_after}
use Rattle.stream_checks.specs.declared.finding.Finding.{Finding}
use Rattle.stream_checks.specs.declared.finding.Spot.{Spot}
use Rattle.stream_checks.specs.declared.finding.Trouble.{Trouble}
use Rattle.stream_checks.specs.declared.finding.Trouble.TheVariants.{Refused, SizeChanges, NeverShown, NoBytes, GoldenCopiesNone, AltrefCopiesNone, ComesTwice}
use Rattle.stream_checks.specs.declared.packets.Ahead.{Ahead}
use Rattle.stream_checks.specs.declared.packets.PacketsBefore.{PacketsBefore}
use Rattle.stream_checks.specs.declared.packets.Found.{Found}
use Rattle.stream_checks.specs.declared.packets.Read.{Read}
use Rattle.stream_checks.specs.declared.stamps.Pace.{Pace}

-- the packets after a refused one that are lost with it: those before the next key tag
abbrev pub lost_after : List Packet → ℕ
lost_after rest = prefix_len (λ packet. not (has_key_tag packet.bytes)) rest

-- a packet is refused, and so many packets are lost with it
abbrev pub refusal : Option Cause → ℕ → Option Trouble
refusal None lost = None
refusal (Some cause) lost = Some (Refused cause lost)

-- the size of a key packet against the size of the last key packet with a size
abbrev pub size_change : Option (ℕ × ℕ) → Option (ℕ × ℕ) → Option Trouble
size_change None size = None
size_change (Some before) None = None
size_change (Some before) (Some size) =
    if before.0 == size.0 then (if before.1 == size.1 then None else Some (SizeChanges before size)) else Some (SizeChanges before size)

-- whether no shown packet comes before the next key tag
abbrev pub is_unshown : List Packet → Bool
is_unshown [] = true
is_unshown (packet ∷ rest) = if has_key_tag packet.bytes then true else if is_shown packet.bytes then false else is_unshown rest

-- a hidden packet that no shown packet follows before the next key tag
abbrev pub never_shown : List ℕ → Bool → Option Trouble
never_shown packet unshown = if is_shown packet then None else if unshown then Some NeverShown else None

-- a packet of no bytes
abbrev pub emptiness : List ℕ → Option Trouble
emptiness packet = if length packet == 0 then Some NoBytes else None

-- a packet that is decoded has the numbers of copies that are coded, any other none
abbrev pub copies_in : Knowledge → List ℕ → CopyNumbers
copies_in (Ok known) packet = copy_numbers packet
copies_in (Err broken) packet = no_copies

-- what reading a packet says: the cause, if the stream breaks at it, and the numbers of its copies
abbrev pub read_in : ℕ → Knowledge → List ℕ → Read
read_in place after packet = record { cause = break_in place after; copies = copies_in after packet }

-- a number 3, which names no reference
abbrev pub undefined_copy : Trouble → ℕ → Option Trouble
undefined_copy trouble number = if number == 3 then Some trouble else None

-- the packet after this one is the same again, an inter packet where the step is constant, or any other
abbrev pub is_same : Packet → Packet → Bool
is_same one other = one.stamp == other.stamp && bytes_eq one.bytes other.bytes

abbrev pub is_repeated : Packet → List Packet → Bool
is_repeated packet [] = false
is_repeated packet (next ∷ rest) = is_same packet next

abbrev pub repetition : Pace → List ℕ → Bool → Option Trouble
repetition pace packet repeated = if repeated && not (length packet == 0) then Some (ComesTwice (pace.is_constant && not (has_key_tag packet))) else None

-- what the findings at a packet depend on of the packets after it
abbrev pub ahead_of : Packet → List Packet → Ahead
ahead_of packet rest = record { lost = lost_after rest; is_unshown = is_unshown rest; is_repeated = is_repeated packet rest }

-- before the first packet
abbrev pub first_position : PacketsBefore
first_position = record { packets = 0; frames = 0; stamps = None; size = None }

abbrev pub newer : {A : Type 0} → Option A → Option A → Option A
newer None before = before
newer (Some now) before = Some now

abbrev pub position_after : ℕ → PacketsBefore → Packet → PacketsBefore
position_after step position packet = record {
  packets = position.packets + 1;
  frames = position.frames + from_bool (is_shown packet.bytes);
  stamps = stamps_after step position.packets position.stamps packet;
  size = newer (key_size_of packet.bytes) position.size;
}

abbrev pub position_over : ℕ → PacketsBefore → List Packet → PacketsBefore
position_over step position [] = position
position_over step position (packet ∷ packets) = position_over step (position_after step position packet) packets

-- the packet at a position, and the frame that it is shown as
abbrev pub spot_of : PacketsBefore → List ℕ → Spot
spot_of position packet = record { packet = position.packets; frame = if is_shown packet then Some position.frames else None }

-- what is wrong with a packet by the packets around it
abbrev pub found_at : Pace → PacketsBefore → Packet → Ahead → Read → Found
found_at pace position packet ahead read = record {
  refused = refusal read.cause ahead.lost;
  empty = emptiness packet.bytes;
  to_golden = undefined_copy GoldenCopiesNone read.copies.golden;
  to_altref = undefined_copy AltrefCopiesNone read.copies.altref;
  twice = repetition pace packet.bytes ahead.is_repeated;
  stamp = stamp_trouble_in pace position.packets position.stamps packet;
  size = size_change position.size (key_size_of packet.bytes);
  hidden = never_shown packet.bytes ahead.is_unshown;
}

abbrev pub listed_of : Spot → Found → List Finding
listed_of spot all =
    listed (found spot all.refused) ++ listed (found spot all.empty) ++ listed (found spot all.to_golden) ++ listed (found spot all.to_altref) ++ listed (found spot all.twice)
    ++ listed (found spot all.stamp) ++ listed (found spot all.size) ++ listed (found spot all.hidden)

-- the findings at a packet. A packet whose partitions are read is not refused, so its first findings are those of its partitions,
-- as a refused packet's first is the refusal
abbrev pub findings_at : Pace → PacketsBefore → Packet → Ahead → Knowledge → PartitionEnds → List Finding
findings_at pace position packet ahead after ends =
    partition_findings (spot_of position packet.bytes) ends
    ++ listed_of (spot_of position packet.bytes) (found_at pace position packet ahead (read_in position.packets after packet.bytes))

-- the findings at each of these packets, by what is known after it and by its partitions
abbrev pub each_from : Pace → PacketsBefore → List Packet → List Knowledge → List PartitionEnds → List (List Finding)
each_from pace position (packet ∷ packets) (after ∷ progresses) (ends ∷ later) =
    findings_at pace position packet (ahead_of packet packets) after ends ∷ each_from pace (position_after pace.step position packet) packets progresses later
each_from pace position packets progresses ends = []

-- all of them, in the order of the packets
abbrev pub joined : List (List Finding) → List Finding
joined each = flat_map (λ found. found) each

abbrev pub findings_from : Pace → PacketsBefore → List Packet → List Knowledge → List PartitionEnds → List Finding
findings_from pace position packets progresses ends = joined (each_from pace position packets progresses ends)

-- the bytes of packets
abbrev pub bytes_of : List Packet → List (List ℕ)
bytes_of packets = map (λ packet. packet.bytes) packets

-- the findings at each packet of a stream, and all of them
abbrev pub findings_of_each : TableEntries → List Packet → List (List Finding)
findings_of_each tables packets =
    each_from (pace_of packets) first_position packets (progresses_from tables 0 (Ok None) (bytes_of packets)) (ends_from tables 0 (Ok None) (bytes_of packets))

abbrev pub packet_findings : TableEntries → List Packet → List Finding
packet_findings tables packets = joined (findings_of_each tables packets)
