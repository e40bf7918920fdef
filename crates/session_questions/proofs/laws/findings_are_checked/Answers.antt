use Rattle.std.proofs.Common.{◌≡◌, ◌≤◌, ℕ, List, ◌++◌, None, Ok, length, sym, ap, ◌∙◌, append-nil, arith}
use Rattle.std.proofs.lemmas.Grind.{flat_map-append}
use Rattle.std.proofs.lemmas.List.{length-map, take_all}
use Rattle.stream_files.specs.declared.packets.Packet.{Packet}
use Rattle.macroblock_lists.specs.declared.layouts.Form.TheVariants as forms
use Rattle.packet_edits.specs.Saved.{packet_of, packets_of}
use Rattle.stream_checks.specs.declared.finding.Finding.{Finding}
use Rattle.stream_checks.specs.Files.{end_findings, head_findings}
use Rattle.stream_checks.specs.Packets.{findings_of_each, first_position, joined, packet_findings}
use Rattle.stream_checks.specs.Stamps.{pace_of}
use Rattle.stream_checks.specs.Texts.{text_of, texts_of}
use Rattle.session_questions.specs.Findings.{findings_from}
use Rattle.session_questions.proofs.Found.{each_counted}
use Rattle.session_questions.proofs.laws.findings_are_checked.Goals as goal

pub returns : goal.returns
returns c = λ tables list bytes source same.
    let packets : List Packet = packets_of list in
    let head : List Finding = head_findings bytes source in
    let middle : List Finding = packet_findings tables source.stream.packets in
    let end : List Finding = end_findings bytes source in
    let all : List (List Finding) = findings_of_each tables packets in
    let many : length all ≤ length list.entries = omega (arith, each_counted tables (pace_of packets) 0 first_position (Ok None) packets, length-map list.entries packet_of) in
    let whole : middle ≡ findings_from tables list 0 (length list.entries) = ap (packet_findings tables) same ∙ ap joined (sym (take_all (length list.entries) all many)) in
    append-nil _ ∙ flat_map-append (text_of forms.Objects) (head ++ middle) end
    ∙ ap (λ (text : List ℕ). text ++ texts_of forms.Objects end) (flat_map-append (text_of forms.Objects) head middle)
    ∙ ap (λ (found : List Finding). texts_of forms.Objects head ++ texts_of forms.Objects found ++ texts_of forms.Objects end) whole
