-- The shown list of a stream.
use Rattle.std.specs.Prelude.{ℕ, ◌+◌, List, [], ◌∷◌, if◌then◌else◌, map}
use Rattle.frame_header.specs.Tags.{is_shown}
use Rattle.packet_edits.specs.Edits.{Listing}

-- the indexes of the shown packets; the first packet of the list has the index `place`
abbrev pub shown_from : ℕ → List (List ℕ) → List ℕ
shown_from place [] = []
shown_from place (packet ∷ packets) =
    if is_shown packet then place ∷ shown_from (place + 1) packets else shown_from (place + 1) packets

-- the shown list: the indexes of the packets whose tag has the show bit, and of those with fewer than 3 bytes
abbrev pub shown_indexes : List (List ℕ) → List ℕ
shown_indexes packets = shown_from 0 packets

-- the packets' bytes
abbrev pub stream_of : Listing → List (List ℕ)
stream_of list = map (λ entry. entry.bytes) list.entries
