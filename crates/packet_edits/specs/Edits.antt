-- Edits of the packet list.
use Rattle.std.specs.Prelude.{ℕ, ◌+◌, ◌-◌, ◌^◌, ◌==◌, ◌&&◌, Bool, nat_lt, nat_le, if◌then◌else◌, List, [], ◌∷◌, ◌++◌, length, slice_get, slice_set, Option, Some, None}
use Rattle.std.specs.List.{insert, remove}
use Rattle.std.specs.Option.{option_map_or}
pub use Rattle.chunked_list.specs.Moves.{moved, with_place}
use Rattle.stream_files.specs.declared.packets.Packet.{Packet}
use Rattle.packet_times.specs.Durations.{duration_before}
use Rattle.packet_times.specs.declared.durations.Duration.{Duration}
use Rattle.frame_header.specs.ShowBits.{has_show_bit, with_show_bit}
use Rattle.packet_edits.specs.declared.entry.Entry.{Entry}
use Rattle.packet_edits.specs.declared.fault.EditFault.{EditFault}
use Rattle.packet_edits.specs.declared.fault.EditFault.TheVariants.{Place, Full, Spent, NoBit}

-- a packet list: its packets in their order, the id of the next inserted packet, and the duration of a packet that has none of its own
pub record Listing : Type 0 where
  pub entries : List Entry
  pub next_id : ℕ
  pub usual : Duration

-- the greatest number of packets of a list
abbrev pub most_packets : ℕ
most_packets = 1048576

-- the id that no packet gets
abbrev pub spent_id : ℕ
spent_id = 2 ^ 64 - 1

-- packets with consecutive ids, starting at this one, and each with its duration up to the next shown one
abbrev pub numbered : Duration → ℕ → List Packet → List Entry
numbered usual id [] = []
numbered usual id (packet ∷ packets) =
    record { id = id; stamp = packet.stamp; duration = duration_before usual packet packets; bytes = packet.bytes } ∷ numbered usual (id + 1) packets

-- the packets of a file, with ids starting at 0
abbrev pub starting_with : Duration → List Packet → Listing
starting_with usual packets = record { entries = numbered usual 0 packets; next_id = length packets; usual = usual }

-- no packets, the id of the first inserted one, and the usual duration
abbrev pub starting : ℕ → Duration → Listing
starting first_id usual = record { entries = []; next_id = first_id; usual = usual }

-- packets appended, in their order
abbrev pub pushed : List Packet → Listing → Listing
pushed packets list = record list { entries = list.entries ++ numbered list.usual list.next_id packets; next_id = list.next_id + length packets }

-- a packet of this duration inserted at an index, with the next id
abbrev pub inserted_for : Duration → ℕ → ℕ → List ℕ → Listing → Listing
inserted_for duration at stamp bytes list = record list {
  entries = insert list.entries at (record { id = list.next_id; stamp = stamp; duration = duration; bytes = bytes });
  next_id = list.next_id + 1;
}

-- a packet inserted that has the usual duration
abbrev pub inserted : ℕ → ℕ → List ℕ → Listing → Listing
inserted at stamp bytes list = inserted_for list.usual at stamp bytes list

-- a copy of the packet at `from` of a source list inserted at an index, with its duration; the list is unchanged if there is no such packet
abbrev pub copied : ℕ → Listing → ℕ → Listing → Listing
copied at source from list = option_map_or (λ entry. inserted_for entry.duration at entry.stamp entry.bytes list) (slice_get source.entries from) list

-- the bytes of the packet at an index replaced, with the next id; its stamp and its duration stay
abbrev pub replaced : ℕ → List ℕ → Listing → Listing
replaced at bytes list = record list {
  entries = with_place at (λ entry. slice_set list.entries at (record entry { id = list.next_id; bytes = bytes })) list.entries;
  next_id = list.next_id + 1;
}

-- the packet at an index removed
abbrev pub deleted : ℕ → Listing → Listing
deleted at list = record list { entries = remove list.entries at }

-- the packet at `from` removed and inserted at index `to` of the shortened list
abbrev pub with_move : ℕ → ℕ → Listing → Listing
with_move from to list = record list { entries = moved from to list.entries }

-- a packet with its show bit set or cleared; its id and its stamp stay
abbrev pub showing : Bool → Entry → Entry
showing shown entry = record entry { bytes = with_show_bit shown entry.bytes }

-- the show bit of the packet at an index set or cleared
abbrev pub with_show_bit_at : ℕ → Bool → Listing → Listing
with_show_bit_at at shown list = record list { entries = with_place at (λ entry. slice_set list.entries at (showing shown entry)) list.entries }

-- the error if no id is left for another packet
abbrev pub refused_id : Listing → Option EditFault
refused_id list = if list.next_id == spent_id then Some Spent else None

-- the first error of an insertion
abbrev pub refused_insertion : Listing → ℕ → Option EditFault
refused_insertion list at =
    if nat_lt (length list.entries) at then Some Place
    else if nat_le most_packets (length list.entries) then Some Full
    else refused_id list

-- the first error of a copy of the packet at `from` of a source list
abbrev pub refused_copy : Listing → ℕ → Listing → ℕ → Option EditFault
refused_copy list at source from = if nat_lt from (length source.entries) then refused_insertion list at else Some Place

-- the first error of appending packets: they are too many, or one of them would get the id that no packet gets
abbrev pub refused_push : Listing → List Packet → Option EditFault
refused_push list packets =
    if nat_lt most_packets (length list.entries + length packets) then Some Full
    else if nat_lt spent_id (list.next_id + length packets) then Some Spent
    else None

-- the first error of a replacement
abbrev pub refused_replacement : Listing → ℕ → Option EditFault
refused_replacement list at = if nat_lt at (length list.entries) then refused_id list else Some Place

-- the error of a deletion
abbrev pub refused_deletion : Listing → ℕ → Option EditFault
refused_deletion list at = if nat_lt at (length list.entries) then None else Some Place

-- the first error of a change of the show bit: the packet has none
abbrev pub refused_show_bit : Listing → ℕ → Option EditFault
refused_show_bit list at = option_map_or (λ entry. if has_show_bit entry.bytes then None else Some NoBit) (slice_get list.entries at) (Some Place)

-- the error of a move
abbrev pub refused_move : Listing → ℕ → ℕ → Option EditFault
refused_move list from to = if nat_lt from (length list.entries) && nat_lt to (length list.entries) then None else Some Place
