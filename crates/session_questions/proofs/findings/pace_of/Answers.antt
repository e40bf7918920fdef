use Rattle.std.proofs.Common.{◌≡◌, ◌≤◌, ◌++◌, ℕ, List, IfOk, ap, sym, subst, ◌∙◌, length, take, arith, add-one}
use Rattle.std.proofs.lemmas.List.{length-map, take_all}
use Rattle.stream_files.specs.declared.packets.Packet.{Packet}
use Rattle.packet_edits.specs.Saved.{packet_of, packets_of}
use Rattle.stream_checks.specs.declared.stamps.Pace.{Pace}
use Rattle.stream_checks.specs.Stamps.{pace_over, shown_stamp, shown_stamps}
use Rattle.session_questions.proofs.Found.{stamps_more}
use Rattle.session_questions.proofs.Steps.{packet_here}
use Rattle.session_questions.proofs.findings.pace_of.Goals as goal

pub loop-place-preserved : goal.loop-place-preserved
loop-place-preserved c =
    let packets : List Packet = packets_of c.args.store.now.list in
    let place = c.loop-place.place in
    let packet : Packet = record { stamp = c.stamp.result; bytes = c.packet.result.now } in
    c.in_ok-add_stamp.ensures ∙ ap (λ (stamps : List ℕ). stamps ++ shown_stamp packet) c.loop-place.invariant
    ∙ sym (stamps_more packets place packet (packet_here c.args.store.now.list.entries place c.stamp.result c.packet.result.now c.stamp.ensures c.packet.ensures))
    ∙ ap (λ (n : ℕ). shown_stamps (take n packets)) (sym (add-one place))

pub returns-clause-pace : goal.returns-clause-pace
returns-clause-pace c =
    let packets : List Packet = packets_of c.args.store.now.list in
    let whole : length packets ≤ c.loop-place.place = omega (arith, length-map c.args.store.now.list.entries packet_of, c.len-place-end.ensures.value) in
    let all : c.as_slice.result.now ≡ shown_stamps packets = c.as_slice.ensures.value ∙ c.loop-place.invariant ∙ ap shown_stamps (take_all c.loop-place.place packets whole) in
    subst (λ (stamps : List ℕ). IfOk c.pace_over.result (λ (pace : Pace). pace ≡ pace_over stamps)) all c.pace_over.ensures.pace
