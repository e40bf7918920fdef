-- Laws about the findings at packets of a list.
use Rattle.std.specs.Prelude.{◌≡◌, ℕ, ◌+◌, List, ◌++◌, length}
use Rattle.vp8_tables.specs.Tables.{TableEntries}
use Rattle.stream_sources.specs.declared.sources.Source.{Source}
use Rattle.packet_edits.specs.Edits.{Listing}
use Rattle.packet_edits.specs.Saved.{packets_of}
use Rattle.macroblock_lists.specs.declared.layouts.Form.TheVariants as forms
use Rattle.stream_checks.specs.Checks.{text_of_check}
use Rattle.stream_checks.specs.Files.{end_findings, findings, head_findings}
use Rattle.stream_checks.specs.Texts.{texts_of}
use Rattle.session_questions.specs.Findings.{findings_from}

-- the findings at all packets, between those at the header and at the end of the file that they are saved to, are the text that
-- vp8list writes of that file
abbrev pub FindingsAreChecked : Type 0
FindingsAreChecked = (tables : TableEntries) (list : Listing) (bytes : List ℕ) (source : Source) → source.stream.packets ≡ packets_of list
    → text_of_check forms.Objects source.stream (findings tables bytes source)
    ≡ texts_of forms.Objects (head_findings bytes source) ++ texts_of forms.Objects (findings_from tables list 0 (length list.entries)) ++ texts_of forms.Objects (end_findings bytes source)

-- the findings at consecutive packets, put together, are those at all of them
abbrev pub FindingsAreJoined : Type 0
FindingsAreJoined = (tables : TableEntries) (list : Listing) (first count more : ℕ)
    → findings_from tables list first count ++ findings_from tables list (first + count) more ≡ findings_from tables list first (count + more)
