-- The position before a packet of a list.
use Rattle.std.specs.Prelude.{◌≡◌, ℕ, ◌+◌, true, List, Some, is_ok, slice_get, take}
use Rattle.frame_header.specs.Outlines.{outline_of}
use Rattle.frame_header.specs.Tags.{has_key_tag}
use Rattle.packet_edits.specs.Edits.{Listing}
use Rattle.packet_edits.specs.Saved.{packets_of}
use Rattle.stream_facts.specs.declared.facts.Position.{Position}
use Rattle.stream_facts.specs.Facts.{first_position, position_over}
use Rattle.session_questions.specs.Lines.{first_record}

-- the position before the packet at an index
abbrev pub position_at : Listing → ℕ → Position
position_at list at = position_over (first_position first_record) (take at (packets_of list))

-- the packet before an index, if the index is not 0, has a key tag and an accepted header
abbrev pub IsAfterKey : List (List ℕ) → ℕ → Type 0
IsAfterKey packets at = (place : ℕ) (packet : List ℕ) → place + 1 ≡ at → slice_get packets place ≡ Some packet → (has_key_tag packet ≡ true) × (is_ok (outline_of true packet) ≡ true)
