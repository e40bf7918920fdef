use Rattle.std.proofs.Common.{◌≡◌, ◌≤◌, length, sym, ap, ◌∙◌, arith}
use Rattle.stream_files.specs.declared.packets.Packet.{Packet}
use Rattle.stream_facts.specs.declared.facts.Position.{Position}
use Rattle.stream_facts.specs.Facts.{position_after}
use Rattle.session_questions.proofs.Steps.{frames_few, packet_here, packets_before, position_next}
use Rattle.session_questions.proofs.places.position_before.Goals as goal

pub next_of-facts-requires-clause-room : goal.next_of-facts-requires-clause-room
next_of-facts-requires-clause-room c =
    let few : c.loop-place.place ≤ 1048576 = omega (arith, c.prove_few.ensures.few) in
    let at : c.loop-place.position.packets ≡ c.loop-place.place = ap (λ (p : Position). p.packets) c.loop-place.invariant ∙ packets_before c.args.store.now.list c.loop-place.place (omega arith) in
    omega (arith, few, at)

pub next_of-facts-requires-clause-frames : goal.next_of-facts-requires-clause-frames
next_of-facts-requires-clause-frames c = rw c.loop-place.invariant (frames_few c.args.store.now.list c.loop-place.place)

pub loop-place-preserved : goal.loop-place-preserved
loop-place-preserved c =
    let packet : Packet = record { stamp = c.stamp.result; bytes = c.packet.result.now } in
    c.next_of-facts.ensures.after ∙ ap (λ (p : Position). position_after p packet) c.loop-place.invariant
    ∙ sym (position_next c.args.store.now.list c.loop-place.place packet (packet_here c.args.store.now.list.entries c.loop-place.place c.stamp.result c.packet.result.now c.stamp.ensures c.packet.ensures))

pub returns-clause-packets : goal.returns-clause-packets
returns-clause-packets c =
    let end : c.loop-place.place ≡ c.args.at = omega (arith, c.nearest_before-position.ensures.before, c.packets-start.ensures) in
    let within : c.loop-place.place ≤ length c.args.store.now.list.entries = omega (arith, end, c.requires.within) in
    omega (arith, end, ap (λ (p : Position). p.packets) c.loop-place.invariant, packets_before c.args.store.now.list c.loop-place.place within)
