-- The lines of a list of packets, as JSON.
use Rattle.std.specs.Prelude.{ℕ, List, drop, map, take}
use Rattle.packet_edits.specs.Edits.{Listing}
use Rattle.packet_edits.specs.Saved.{packets_of}
use Rattle.stream_facts.specs.Facts.{facts_in}
use Rattle.stream_facts.specs.Json.{object_of}

-- the byte at which the first record of a saved file begins: after its header
abbrev pub first_record : ℕ
first_record = 32

-- the objects of the packets, each with its newline, as vp8list has them of the file that they are saved to
abbrev pub lines_of : Listing → List (List ℕ)
lines_of list = map object_of (facts_in first_record (packets_of list))

-- those of this many packets, starting at an index
abbrev pub lines_from : Listing → ℕ → ℕ → List (List ℕ)
lines_from list first count = take count (drop first (lines_of list))
