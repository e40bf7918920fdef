-- The list of a file's packets.
use Rattle.std.specs.Prelude.{ℕ, List, ◌++◌}
use Rattle.std.specs.List.{flat_map}
use Rattle.stream_files.specs.declared.packets.Packet.{Packet}
use Rattle.stream_facts.specs.declared.places.Places.{Places}
use Rattle.stream_facts.specs.Json.{object_of}
use Rattle.stream_facts.specs.Lines.{head_line, line_of}
use Rattle.stream_facts.specs.Places.{facts_at}

-- the names of the columns, and a line for each packet, which are at these places of their file
abbrev pub list_text : Places → List Packet → List ℕ
list_text places packets = head_line ++ flat_map line_of (facts_at places packets)

-- an object for each, a line each
abbrev pub objects_of : Places → List Packet → List ℕ
objects_of places packets = flat_map object_of (facts_at places packets)
