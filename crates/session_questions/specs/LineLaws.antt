-- Laws about the lines of a list of packets.
use Rattle.std.specs.Prelude.{◌≡◌, ℕ, ◌+◌, ◌++◌}
use Rattle.std.specs.List.{concat}
use Rattle.packet_edits.specs.Edits.{Listing}
use Rattle.packet_edits.specs.Saved.{packets_of}
use Rattle.stream_facts.specs.Lists.{objects_of}
use Rattle.stream_facts.specs.declared.places.Places.TheVariants.{Records}
use Rattle.session_questions.specs.Lines.{first_record, lines_from, lines_of}

-- all of them together are the text that vp8list writes of the file that they are saved to
abbrev pub LinesAreListed : Type 0
LinesAreListed = (list : Listing) → concat (lines_of list) ≡ objects_of (Records first_record) (packets_of list)

-- the lines of consecutive packets, put together, are those of all of them
abbrev pub LinesAreJoined : Type 0
LinesAreJoined = (list : Listing) (first count more : ℕ) → lines_from list first count ++ lines_from list (first + count) more ≡ lines_from list first (count + more)
