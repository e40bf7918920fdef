-- One more packet of a check.
use Rattle.std.proofs.Common.{◌≡◌, ◌++◌, ◌∷◌, List, sym, ap, ◌∙◌}
use Rattle.vp8_tables.specs.Tables.{TableEntries}
use Rattle.stream_files.specs.declared.packets.Packet.{Packet}
use Rattle.macroblock_lists.specs.Known.{Knowledge}
use Rattle.stream_checks.specs.declared.checker.Checker.{Checker}
use Rattle.stream_checks.specs.declared.finding.Finding.{Finding}
use Rattle.stream_checks.specs.declared.packets.Ahead.{Ahead}
use Rattle.stream_checks.specs.declared.packets.PacketsBefore.{PacketsBefore}
use Rattle.stream_checks.specs.declared.stamps.Pace.{Pace}
use Rattle.stream_checks.specs.Packets.{ahead_of, bytes_of, each_from, joined, position_after}
use Rattle.stream_checks.specs.Breaks.{progresses_from}
use Rattle.stream_checks.specs.Partitions.{ends_from}
use Rattle.stream_checks.specs.Checks.{each_after, findings_after, findings_next, progress_next}

-- what is left after a packet is what the checker after it finds
pub each_more : (tables : TableEntries) (before after : Checker) (packet : Packet) (rest : List Packet) (ahead : Ahead)
    → after.pace ≡ before.pace → after.position ≡ position_after before.pace.step before.position packet → after.reader ≡ progress_next tables before packet
    → ahead ≡ ahead_of packet rest
    → each_after tables before (packet ∷ rest) ≡ findings_next tables before packet ahead ∷ each_after tables after rest
each_more tables before after packet rest ahead pace position reader is =
    let found : List Finding = findings_next tables before packet (ahead_of packet rest) in
    let from : Pace → PacketsBefore → Knowledge → List (List Finding) = λ s p d. found ∷ each_from s p rest (progresses_from tables p.packets d (bytes_of rest)) (ends_from tables p.packets d (bytes_of rest)) in
    ap (λ (s : Pace). from s (position_after before.pace.step before.position packet) (progress_next tables before packet)) (sym pace)
    ∙ ap (λ (p : PacketsBefore). from after.pace p (progress_next tables before packet)) (sym position)
    ∙ ap (λ (d : Knowledge). from after.pace after.position d) (sym reader)
    ∙ ap (λ (a : Ahead). findings_next tables before packet a ∷ each_after tables after rest) (sym is)

pub one_more : (tables : TableEntries) (before after : Checker) (packet : Packet) (rest : List Packet) (ahead : Ahead)
    → after.pace ≡ before.pace → after.position ≡ position_after before.pace.step before.position packet → after.reader ≡ progress_next tables before packet
    → ahead ≡ ahead_of packet rest
    → findings_after tables before (packet ∷ rest) ≡ findings_next tables before packet ahead ++ findings_after tables after rest
one_more tables before after packet rest ahead pace position reader is = ap joined (each_more tables before after packet rest ahead pace position reader is)
