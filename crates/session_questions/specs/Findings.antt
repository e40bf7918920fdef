-- The findings at packets of a list, as JSON.
use Rattle.std.specs.Prelude.{ℕ, List, [], ◌∷◌, ◌++◌, drop, map, take}
use Rattle.vp8_tables.specs.Tables.{TableEntries}
use Rattle.packet_edits.specs.Edits.{Listing}
use Rattle.packet_edits.specs.Saved.{packets_of}
use Rattle.stream_checks.specs.declared.finding.Finding.{Finding}
use Rattle.stream_checks.specs.Objects.{object_of, tally_object}
use Rattle.stream_checks.specs.Packets.{findings_of_each, joined}
use Rattle.stream_checks.specs.Severity.{tally_of}

-- the findings at this many packets, starting at an index, as vp8list has them of the file that the packets are saved to
abbrev pub findings_from : TableEntries → Listing → ℕ → ℕ → List Finding
findings_from tables list first count = joined (take count (drop first (findings_of_each tables (packets_of list))))

-- their lines: an object for each, and one for how many are damage and how many are notes
abbrev pub finding_lines : List Finding → List (List ℕ)
finding_lines found = map object_of found ++ tally_object (tally_of found) ∷ []

abbrev pub check_lines : TableEntries → Listing → ℕ → ℕ → List (List ℕ)
check_lines tables list first count = finding_lines (findings_from tables list first count)
