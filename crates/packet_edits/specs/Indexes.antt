-- The index of a store's packets: which are shown, and which have a key tag.
use Rattle.std.specs.Prelude.{ℕ, Bool, List, [], ◌∷◌, ◌++◌, map, slice_set, take}
use Rattle.std.specs.List.{insert, remove}
use Rattle.frame_header.specs.Tags.{has_key_tag, is_shown}
use Rattle.stream_files.specs.declared.packets.Packet.{Packet}
use Rattle.chunked_list.specs.Moves.{moved}
use Rattle.packet_edits.specs.declared.packet_index.PacketIndex.{PacketIndex}

-- a change of both lists of flags
abbrev pub both : (List Bool → List Bool) → (List Bool → List Bool) → PacketIndex → PacketIndex
both change_shown change_keys index = record { shown = change_shown index.shown; keys = change_keys index.keys }

-- the index after an edit of the packets
abbrev pub set_in : ℕ → List ℕ → PacketIndex → PacketIndex
set_in at packet index = both (λ flags. slice_set flags at (is_shown packet)) (λ flags. slice_set flags at (has_key_tag packet)) index

abbrev pub inserted_to : ℕ → List ℕ → PacketIndex → PacketIndex
inserted_to at packet index = both (λ flags. insert flags at (is_shown packet)) (λ flags. insert flags at (has_key_tag packet)) index

abbrev pub removed_from : ℕ → PacketIndex → PacketIndex
removed_from at index = both (λ flags. remove flags at) (λ flags. remove flags at) index

abbrev pub moved_in : ℕ → ℕ → PacketIndex → PacketIndex
moved_in from to index = both (moved from to) (moved from to) index

abbrev pub kept_of : ℕ → PacketIndex → PacketIndex
kept_of len index = both (take len) (take len) index

abbrev pub pushed_to : List ℕ → PacketIndex → PacketIndex
pushed_to packet index = both (λ flags. flags ++ is_shown packet ∷ []) (λ flags. flags ++ has_key_tag packet ∷ []) index

abbrev pub appended_to : List Packet → PacketIndex → PacketIndex
appended_to packets index = both (λ flags. flags ++ map (λ packet. is_shown packet.bytes) packets) (λ flags. flags ++ map (λ packet. has_key_tag packet.bytes) packets) index
