-- What a store has besides its packets: indexes of the shown ones, of key packets and of marks, and the next id.
use Rattle.std.specs.Prelude.{◌≡◌, ℕ, ◌≤◌, Bool, List, map, length}
use Rattle.frame_header.specs.Tags.{has_key_tag, is_shown}
use Rattle.packet_edits.specs.declared.entry.Entry.{Entry}
use Rattle.packet_edits.specs.declared.packet_index.PacketIndex.{PacketIndex}
use Rattle.packet_edits.specs.Laws.{HaveOwnIds}

-- which packets are shown, and which have a key tag
abbrev pub index_of : List Entry → PacketIndex
index_of entries = record { shown = map (λ entry. is_shown entry.bytes) entries; keys = map (λ entry. has_key_tag entry.bytes) entries }

-- each packet has its own id, there are as many marks as packets, at most 1,048,576, and the index agrees with the packets
pub record IsWhole (entries : List Entry) (next_id : ℕ) (marks : List Bool) (index : PacketIndex) : Type 0 where
  pub indexed : index ≡ index_of entries
  pub few : length entries ≤ 1048576
  pub marked : length marks ≡ length entries
  pub own : HaveOwnIds next_id entries
