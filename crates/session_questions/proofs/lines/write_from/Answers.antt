use Rattle.std.proofs.Common.{◌≡◌, ◌≤◌, ℕ, ◌+◌, ◌-◌, List, [], ◌∷◌, ◌++◌, Some, slice_get, sym, subst, ap, ◌∙◌, arith, append-nil}
use Rattle.std.specs.List.{concat}
use Rattle.std.proofs.KnownBytes.{Appends-trans}
use Rattle.std.proofs.lemmas.List.Folds.{concat-append}
use Rattle.std.specs.Io.KnownBytes.{Appends}
use Rattle.stream_files.specs.declared.packets.Packet.{Packet}
use Rattle.stream_facts.specs.declared.facts.Facts.{Facts}
use Rattle.stream_facts.specs.declared.facts.Position.{Position}
use Rattle.stream_facts.specs.Facts.{facts_of, position_after}
use Rattle.stream_facts.specs.Json.{object_of}
use Rattle.session_questions.specs.Lines.{lines_from, lines_of}
use Rattle.session_questions.specs.Places.{position_at}
use Rattle.session_questions.proofs.Steps.{frames_few, line_here, lines_more, packet_here, packets_before, position_next}
use Rattle.session_questions.proofs.lines.write_from.Goals as goal

pub next_of-facts-requires-clause-room : goal.next_of-facts-requires-clause-room
next_of-facts-requires-clause-room g c =
    let few : c.loop-at.at ≤ 1048576 = omega (arith, c.prove_few.ensures.few, c.requires.within) in
    let at : c.loop-at.position.packets ≡ c.loop-at.at = ap (λ (p : Position). p.packets) c.loop-at.invariant.position ∙ packets_before c.args.store.now.list c.loop-at.at (omega (arith, c.requires.within)) in
    omega (arith, few, at)

pub next_of-facts-requires-clause-frames : goal.next_of-facts-requires-clause-frames
next_of-facts-requires-clause-frames g c = rw c.loop-at.invariant.position (frames_few c.args.store.now.list c.loop-at.at)

pub loop-at-preserved : goal.loop-at-preserved
loop-at-preserved g c =
    let list = c.args.store.now.list in
    let first = c.args.first in
    let at = c.loop-at.at in
    let packet : Packet = record { stamp = c.stamp.result; bytes = c.packet.result.now } in
    let here = packet_here list.entries at c.stamp.result c.packet.result.now c.stamp.ensures c.packet.ensures in
    let line = object_of c.next_of-facts.result in
    let facts : c.next_of-facts.result ≡ facts_of (position_at list at) packet = c.next_of-facts.ensures.facts ∙ ap (λ (p : Position). facts_of p packet) c.loop-at.invariant.position in
    let found : slice_get (lines_of list) at ≡ Some line = line_here list at packet here ∙ ap (λ (f : Facts). Some (object_of f)) (sym facts) in
    let one : at + 1 - first ≡ at - first + 1 = omega arith in
    let more : lines_from list first (at + 1 - first) ≡ lines_from list first (at - first) ++ line ∷ [] =
    ap (lines_from list first) one ∙ lines_more (lines_of list) first (at - first) at line (omega arith) found in
    let joined : concat (lines_from list first (at + 1 - first)) ≡ concat (lines_from list first (at - first)) ++ line =
    ap concat more ∙ concat-append (lines_from list first (at - first)) (line ∷ []) ∙ ap (λ (t : List ℕ). concat (lines_from list first (at - first)) ++ t) (append-nil line) in
    record {
      position = c.next_of-facts.ensures.after ∙ ap (λ (p : Position). position_after p packet) c.loop-at.invariant.position ∙ sym (position_next list at packet here);
      said = subst (λ (t : List ℕ). Appends (g.W.Write.contents c.args.w.now) (g.W.Write.contents c.write_object.new.w) t) (sym joined) (Appends-trans _ _ _ _ _ c.loop-at.invariant.said c.in_ok-write_object.ensures);
    }
