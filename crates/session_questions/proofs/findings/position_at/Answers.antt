use Rattle.std.proofs.Common.{◌≡◌, ◌≤◌, ◌+◌, ℕ, suc, List, ap, sym, ◌∙◌, length, take, arith}
use Rattle.stream_files.specs.declared.packets.Packet.{Packet}
use Rattle.packet_edits.specs.Saved.{packets_of}
use Rattle.stream_checks.specs.declared.packets.PacketsBefore.{PacketsBefore}
use Rattle.stream_checks.specs.Packets.{first_position, position_after, position_over}
use Rattle.session_questions.proofs.Found.{position_more}
use Rattle.session_questions.proofs.Steps.{packet_here}
use Rattle.session_questions.proofs.findings.position_at.Goals as goal

pub loop-place-preserved : goal.loop-place-preserved
loop-place-preserved c =
    let packets : List Packet = packets_of c.args.store.now.list in
    let step = c.args.step in
    let place = c.loop-place.place in
    let packet : Packet = record { stamp = c.stamp.result; bytes = c.packet.result.now } in
    let here = packet_here c.args.store.now.list.entries place c.stamp.result c.packet.result.now c.stamp.ensures c.packet.ensures in
    let met = c.loop-place.invariant in
    let before : PacketsBefore = c.loop-place.position in
    let after : PacketsBefore = c.after-position.result in
    let start : before ≡ position_over step first_position (take place packets) = met.is.is ∙ ap (λ (n : ℕ). position_over step first_position (take n packets)) met.packets in
    let next : after.packets ≡ before.packets + 1 = ap (λ (p : PacketsBefore). p.packets) c.after-position.ensures.after in
    let index : suc place ≡ after.packets = omega (arith, next, met.packets) in
    let many : after.packets ≤ length c.args.store.now.list.entries = omega (arith, next, met.packets, c.requires.within) in
    record {
      is = record {
        within = many;
        frames = c.after-position.ensures.frames;
        is = c.after-position.ensures.after ∙ ap (λ (p : PacketsBefore). position_after step p packet) start
            ∙ sym (position_more step first_position packets place packet here)
            ∙ ap (λ (n : ℕ). position_over step first_position (take n packets)) index;
      };
      packets = omega (arith, next, met.packets);
    }
