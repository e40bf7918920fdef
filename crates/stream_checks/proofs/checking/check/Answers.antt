use Rattle.std.proofs.Common.{◌≡◌, ◌+◌, ℕ, List, None, Ok, length, subst, ap, arith, ◌∙◌}
use Rattle.std.specs.Io.KnownBytes.{Appends}
use Rattle.stream_files.specs.declared.packets.Packet.{Packet}
use Rattle.stream_checks.specs.declared.checker.Checker.{Checker}
use Rattle.stream_checks.specs.declared.finding.Tally.{Tally}
use Rattle.stream_checks.specs.declared.packets.PacketsBefore.{PacketsBefore}
use Rattle.stream_checks.specs.Checks.{IsPacketEnd, findings_after}
use Rattle.stream_checks.specs.Lines.{frames_of}
use Rattle.stream_checks.specs.Packets.{first_position, packet_findings}
use Rattle.stream_checks.specs.Severity.{plus, tally_of}
use Rattle.stream_checks.specs.Stamps.{pace_of}
use Rattle.stream_checks.specs.declared.stamps.Pace.{Pace}
use Rattle.stream_checks.specs.Texts.{end_of, texts_of}
use Rattle.stream_sources.proofs.OneStream.{ivf_has_fields, source_few, source_kept}
use Rattle.stream_checks.proofs.Ends.{checked_whole, early_whole}
use Rattle.stream_checks.proofs.checking.check.Goals as goal

pub write_head-requires : goal.write_head-requires
write_head-requires g c = λ none. ivf_has_fields c.args.file.bytes.now c.args.file.source.now c.requires none

pub write_packets-requires-clause-few : goal.write_packets-requires-clause-few
write_packets-requires-clause-few g c =
    rw (c.new-checker.ensures, c.first.ensures, c.as_slice-packets.ensures) (omega (arith, source_few c.args.file.bytes.now c.args.file.source.now c.requires))

pub write_tail-requires : goal.write_tail-requires
write_tail-requires g c = source_kept c.args.file.bytes.now c.args.file.source.now c.requires

pub returns-in-Err-clause-early : goal.returns-in-Err-clause-early
returns-in-Err-clause-early g c =
    let form = c.args.form in
    let tables = c.args.tables.now in
    let source = c.args.file.source.now in
    let packets : List Packet = c.as_slice-packets.result.now in
    let same : packets ≡ source.stream.packets = c.as_slice-packets.ensures in
    let at_first : Pace → PacketsBefore → Checker = λ pace position. record { form = form; pace = pace; position = position; reader = Ok None } in
    let first : c.new-checker.result ≡ at_first (pace_of packets) first_position =
    c.new-checker.ensures ∙ ap (λ (position : PacketsBefore). at_first c.in-Ok.pace position) c.first.ensures ∙ ap (λ (pace : Pace). at_first pace first_position) c.in-Ok.ensures.pace in
    let w1 = g.W.Write.contents c.write_head.new.w in
    let w2 = g.W.Write.contents c.write_packets.new.w in
    let by_checker : IsPacketEnd form (packet_findings tables packets) w1 w2 c.in-Err.fault =
    subst (λ (checker : Checker). IsPacketEnd checker.form (findings_after tables checker packets) w1 w2 c.in-Err.fault) first c.in-Err.ensures.early in
    early_whole c.in-Err.fault form tables c.args.file.bytes.now source _ w1 w2
    c.in-Ok-write_head.ensures.written
    (subst (λ (ps : List Packet). IsPacketEnd form (packet_findings tables ps) w1 w2 c.in-Err.fault) same by_checker)

pub returns-in-Ok-write_end-clause-checked : goal.returns-in-Ok-write_end-clause-checked
returns-in-Ok-write_end-clause-checked g c =
    let form = c.args.form in
    let tables = c.args.tables.now in
    let source = c.args.file.source.now in
    let packets : List Packet = c.as_slice-packets.result.now in
    let same : packets ≡ source.stream.packets = c.as_slice-packets.ensures in
    let at_first : Pace → PacketsBefore → Checker = λ pace position. record { form = form; pace = pace; position = position; reader = Ok None } in
    let first : c.new-checker.result ≡ at_first (pace_of packets) first_position =
    c.new-checker.ensures ∙ ap (λ (position : PacketsBefore). at_first c.in-Ok.pace position) c.first.ensures ∙ ap (λ (pace : Pace). at_first pace first_position) c.in-Ok.ensures.pace in
    let made = c.in-Ok-write_packets.ensures in
    let w1 = g.W.Write.contents c.write_head.new.w in
    let w2 = g.W.Write.contents c.write_packets.new.w in
    let w3 = g.W.Write.contents c.write_tail.new.w in
    let w4 = g.W.Write.contents c.write_end.new.w in
    let total : Tally = c.plus-found.result in
    let written : Appends w1 w2 (texts_of form (packet_findings tables packets)) =
    subst (λ (checker : Checker). Appends w1 w2 (texts_of checker.form (findings_after tables checker packets))) first made.written in
    let counted : c.in-Ok-write_packets.checked.tally ≡ tally_of (packet_findings tables packets) =
    subst (λ (checker : Checker). c.in-Ok-write_packets.checked.tally ≡ tally_of (findings_after tables checker packets)) first made.counted in
    let shown = subst (λ (checker : Checker). c.in-Ok-write_packets.checked.frames ≡ checker.position.frames + frames_of packets) first made.frames in
    let frames : c.in-Ok-write_packets.checked.frames ≡ frames_of packets = omega (arith, shown) in
    let ended : Appends w3 w4 (end_of form (length packets) (frames_of packets) total) =
    subst (λ (frames : ℕ). Appends w3 w4 (end_of form (length packets) frames total)) frames c.in-Ok-write_end.ensures in
    checked_whole form tables c.args.file.bytes.now source _ w1 w2 w3 w4 c.in-Ok-write_head.at_head c.in-Ok-write_packets.checked.tally c.in-Ok-write_tail.at_end total
    c.in-Ok-write_head.ensures.written
    (subst (λ (ps : List Packet). Appends w1 w2 (texts_of form (packet_findings tables ps))) same written)
    c.in-Ok-write_tail.ensures.written
    c.in-Ok-write_head.ensures.counted
    (subst (λ (ps : List Packet). c.in-Ok-write_packets.checked.tally ≡ tally_of (packet_findings tables ps)) same counted)
    c.in-Ok-write_tail.ensures.counted
    (c.plus-found.ensures ∙ ap (λ (tally : Tally). plus tally c.in-Ok-write_tail.at_end) c.plus.ensures)
    (subst (λ (ps : List Packet). Appends w3 w4 (end_of form (length ps) (frames_of ps) total)) same ended)
