-- The text of a check, and what was written when it fails.
use Rattle.std.specs.Prelude.{◌≡◌, ◌⊎◌, ℕ, List, ◌++◌, length, Option, IfSome}
use Rattle.std.specs.Io.KnownBytes.{Appends}
use Rattle.vp8_tables.specs.Tables.{TableEntries}
use Rattle.stream_files.specs.declared.streams.Stream.{Stream}
use Rattle.stream_sources.specs.declared.sources.Source.{Source}
use Rattle.stream_files.specs.declared.packets.Packet.{Packet}
use Rattle.macroblock_lists.specs.Known.{Knowledge, progress_after}
use Rattle.macroblock_lists.specs.PartitionEnds.{ends_before}
use Rattle.stream_checks.specs.declared.checker.Checker.{Checker}
use Rattle.stream_checks.specs.Breaks.{progresses_from}
use Rattle.stream_checks.specs.Packets.{bytes_of, each_from, findings_at, is_unshown, joined, lost_after}
use Rattle.stream_checks.specs.Partitions.{ends_from}
use Rattle.macroblock_lists.specs.declared.partition_ends.PartitionEnds.{PartitionEnds}
use Rattle.stream_checks.specs.declared.finding.Finding.{Finding}
use Rattle.stream_checks.specs.declared.finding.Tally.{Tally}
use Rattle.stream_checks.specs.declared.packets.Ahead.{Ahead}
use Rattle.stream_checks.specs.declared.fault.CheckFault.{CheckFault}
use Rattle.stream_checks.specs.declared.fault.CheckFault.TheVariants.{NoMemory, Write}
use Rattle.macroblock_lists.specs.declared.layouts.Form.{Form}
use Rattle.stream_checks.specs.Files.{findings}
use Rattle.stream_checks.specs.Lines.{frames_of}
use Rattle.stream_checks.specs.Severity.{tally_of}
use Rattle.stream_checks.specs.Texts.{end_of, texts_of}

-- what is known after the packet after a checker's position
abbrev pub progress_next : TableEntries → Checker → Packet → Knowledge
progress_next tables checker packet = progress_after tables checker.position.packets checker.reader packet.bytes

abbrev pub ends_next : TableEntries → Checker → Packet → PartitionEnds
ends_next tables checker packet = ends_before tables checker.reader packet.bytes

-- the findings at this packet, after which this is known of the packets
abbrev pub findings_next : TableEntries → Checker → Packet → Ahead → List Finding
findings_next tables checker packet ahead =
    findings_at checker.pace checker.position packet ahead (progress_next tables checker packet) (ends_next tables checker packet)

-- what is known ahead of the packet before the position is so of the packets after it
abbrev pub TellsAhead : Option Ahead → List Packet → Type 0
TellsAhead before rest = IfSome before (λ ahead. (ahead.lost ≡ lost_after rest) × (ahead.is_unshown ≡ is_unshown rest))

-- the findings at each of the packets after the position, and all of them
abbrev pub each_after : TableEntries → Checker → List Packet → List (List Finding)
each_after tables checker rest =
    each_from checker.pace checker.position rest (progresses_from tables checker.position.packets checker.reader (bytes_of rest))
    (ends_from tables checker.position.packets checker.reader (bytes_of rest))

abbrev pub findings_after : TableEntries → Checker → List Packet → List Finding
findings_after tables checker rest = joined (each_after tables checker rest)

-- the text of findings, and what follows them
abbrev pub text_of_check : Form → Stream → List Finding → List ℕ
text_of_check form file found = texts_of form found ++ end_of form (length file.packets) (frames_of file.packets) (tally_of found)

-- a check of a file: the output gained the text of its findings, and the tally is theirs
pub record IsChecked (form : Form) (tables : TableEntries) (bytes : List ℕ) (source : Source) (tally : Tally) (output output' : Option (List ℕ)) : Type 0 where
  pub written : Appends output output' (text_of_check form source.stream (findings tables bytes source))
  pub counted : tally ≡ tally_of (findings tables bytes source)

-- the output gained the texts of the first findings, as many as there was memory for
pub record IsBegun (form : Form) (all : List Finding) (output output' : Option (List ℕ)) : Type 0 where
  pub done : List Finding
  pub left : List Finding
  pub whole : done ++ left ≡ all
  pub said : Appends output output' (texts_of form done)

-- what was written when a check ended early
abbrev pub IsEarlyEnd : Form → TableEntries → List ℕ → Source → Option (List ℕ) → Option (List ℕ) → CheckFault → Type 0
IsEarlyEnd form tables bytes source output output' NoMemory = (output' ≡ output) ⊎ IsBegun form (findings tables bytes source) output output'
IsEarlyEnd form tables bytes source output output' Write = Unit {0}

-- and when its packets did
abbrev pub IsPacketEnd : Form → List Finding → Option (List ℕ) → Option (List ℕ) → CheckFault → Type 0
IsPacketEnd form all output output' NoMemory = IsBegun form all output output'
IsPacketEnd form all output output' Write = Unit {0}
