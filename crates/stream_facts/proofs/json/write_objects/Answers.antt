use Rattle.std.proofs.Common.{◌≡◌, ℕ, ◌+◌, List, [], ◌∷◌, ◌++◌, drop, map, ap, sym, ◌∙◌, arith, subst, append_assoc, append-nil}
use Rattle.std.proofs.KnownBytes.{Appends-trans}
use Rattle.std.proofs.lemmas.List.{drop_more, drop_all}
use Rattle.std.specs.List.{flat_map}
use Rattle.std.specs.Io.KnownBytes.{Appends}
use Rattle.stream_files.specs.declared.packets.Packet.{Packet}
use Rattle.stream_facts.specs.declared.facts.Position.{Position}
use Rattle.stream_facts.specs.Facts.{facts_from, facts_of, position_after}
use Rattle.stream_facts.specs.Places.{placed}
use Rattle.stream_facts.specs.Json.{object_of}
use Rattle.stream_facts.specs.Lists.{objects_of}
use Rattle.stream_facts.proofs.json.write_objects.Goals as goal

pub loop-packet-preserved : goal.loop-packet-preserved
loop-packet-preserved g c =
    let places = c.args.places.now in
    let position : Position = c.loop-packet.position in
    let done = c.loop-packet.invariant.done in
    let packet = c.packet-item.result in
    let rest = drop (c.loop-packet.packet-index + 1) c.args.packets.now in
    let at : drop c.loop-packet.packet-index c.args.packets.now ≡ packet ∷ rest = drop_more c.args.packets.now c.loop-packet.packet-index packet c.loop-packet-test.true ∙ ap (λ (p : Packet). p ∷ rest) (sym c.packet-item.is) in
    record {
      done = done ++ object_of c.next-facts.result;
      whole = rw (c.next-facts.ensures.facts, c.next-facts.ensures.after)
          (append_assoc done (object_of (placed places (facts_of position packet))) (flat_map object_of (map (placed places) (facts_from (position_after position packet) rest)))
          ∙ ap (λ (packets : List Packet). done ++ flat_map object_of (map (placed places) (facts_from position packets))) (sym at)
          ∙ c.loop-packet.invariant.whole);
      said = Appends-trans _ _ _ _ _ c.loop-packet.invariant.said c.in_ok-write_object.ensures;
      packets = ap (λ (p : Position). p.packets) c.next-facts.ensures.after ∙ ap (λ (n : ℕ). n + 1) c.loop-packet.invariant.packets;
      frames = c.next-facts.ensures.frames;
    }

pub returns : goal.returns
returns g c =
    let done = c.loop-packet.invariant.done in
    let all : drop c.loop-packet.packet-index c.args.packets.now ≡ [] = drop_all c.loop-packet.packet-index c.args.packets.now (omega (arith, c.loop-packet-test.false)) in
    let whole : done ≡ objects_of c.args.places.now c.args.packets.now =
    sym (append-nil done) ∙ ap (λ (packets : List Packet). done ++ flat_map object_of (map (placed c.args.places.now) (facts_from c.loop-packet.position packets))) (sym all) ∙ c.loop-packet.invariant.whole in
    subst (λ (text : List ℕ). Appends (g.W.Write.contents c.args.w.now) (g.W.Write.contents c.loop-packet.w) text) whole c.loop-packet.invariant.said
