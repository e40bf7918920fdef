-- Marks: a packet is marked when its cached outcome may no longer follow from the packet before it.
use Rattle.std.specs.Prelude.{ℕ, ◌+◌, Bool, true, false, List, ◌++◌, map, slice_set}
use Rattle.std.specs.List.{insert, remove}
use Rattle.chunked_list.specs.Moves.{moved}
use Rattle.stream_files.specs.declared.packets.Packet.{Packet}
use Rattle.packet_edits.specs.Edits.{Listing}

-- the value of a store: its packet list, and for each packet whether it is marked
pub record StoreValue : Type 0 where
  pub list : Listing
  pub marks : List Bool

-- the marks with the packet at an index marked, if there is one
abbrev pub marked_at : ℕ → List Bool → List Bool
marked_at place marks = slice_set marks place true

-- the marks with the packet at an index unmarked
abbrev pub unmarked_at : ℕ → List Bool → List Bool
unmarked_at place marks = slice_set marks place false

-- appended packets have no mark
abbrev pub marks_pushed : List Packet → List Bool → List Bool
marks_pushed packets marks = marks ++ map (λ packet. false) packets

-- an inserted packet has no mark, and the packet after it is marked
abbrev pub marks_inserted : ℕ → List Bool → List Bool
marks_inserted at marks = marked_at (at + 1) (insert marks at false)

-- a replaced packet has no mark, and the packet after it is marked
abbrev pub marks_replaced : ℕ → List Bool → List Bool
marks_replaced at marks = marked_at (at + 1) (unmarked_at at marks)

-- after a deletion the packet now at the index is marked
abbrev pub marks_deleted : ℕ → List Bool → List Bool
marks_deleted at marks = marked_at at (remove marks at)

-- a moved packet is marked, and so are the packet after its old index and the packet after it now
abbrev pub marks_moved : ℕ → ℕ → List Bool → List Bool
marks_moved from to marks = marked_at (to + 1) (moved from to (marked_at (from + 1) (marked_at from marks)))
