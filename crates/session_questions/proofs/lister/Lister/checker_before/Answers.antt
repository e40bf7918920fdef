use Rattle.std.proofs.Common.{◌≡◌, ℕ, List, None, Ok, ap, ◌∙◌, drop, take}
use Rattle.stream_files.specs.declared.packets.Packet.{Packet}
use Rattle.packet_edits.specs.Saved.{packets_of}
use Rattle.macroblock_lists.specs.Known.{Knowledge}
use Rattle.stream_checks.specs.declared.checker.Checker.{Checker}
use Rattle.stream_checks.specs.declared.packets.PacketsBefore.{PacketsBefore}
use Rattle.stream_checks.specs.declared.stamps.Pace.{Pace}
use Rattle.stream_checks.specs.Checks.{each_after}
use Rattle.stream_checks.specs.Packets.{first_position, position_over}
use Rattle.session_questions.proofs.Found.{each, each_known}
use Rattle.session_questions.proofs.lister.Lister.checker_before.Goals as goal

pub returns-clause-each : goal.returns-clause-each
returns-clause-each c =
    let tables = c.args.tables.now in
    let list = c.args.store.now.list in
    let packets : List Packet = packets_of list in
    let first = c.args.first in
    let rest = drop first packets in
    let pace : Pace = c.in_ok-pace.pace in
    let position : PacketsBefore = c.position_at-position.result in
    let progress : Knowledge = c.in_ok-progress.progress in
    let start : position ≡ position_over pace.step first_position (take first packets) =
    c.position_at-position.ensures.is.is ∙ ap (λ (n : ℕ). position_over pace.step first_position (take n packets)) c.position_at-position.ensures.packets in
    ap (λ (checker : Checker). each_after tables checker rest) c.new.ensures
    ∙ ap (λ (n : ℕ). each tables pace n position progress rest) c.position_at-position.ensures.packets
    ∙ each_known tables pace list first c.args.count position progress start c.in_ok-progress.ensures.known
    ∙ ap (λ (s : Pace). drop first (each tables s 0 first_position (Ok None) packets)) c.in_ok-pace.ensures.pace.0
