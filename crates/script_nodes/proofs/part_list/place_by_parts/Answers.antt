use Rattle.std.proofs.Common.{sym, ap, ◌∙◌, ◌+◌, drop, arith}
use Rattle.script_nodes.specs.Lengths.{place_in}
use Rattle.script_nodes.proofs.PartSums.{length_next, no_part, place_here, place_later, place_end}
use Rattle.script_nodes.proofs.part_list.place_by_parts.Goals as goal

pub loop-part-preserved : goal.loop-part-preserved
loop-part-preserved c = record {
  same = c.loop-part.invariant.same ∙ place_later c.args.lengths.now c.args.parts.now c.loop-part.part-index c.loop-part.left no_part c.loop-part-test.true (omega (arith, c.length-length.ensures, c.if-left-length.false))
      ∙ ap (λ n. place_in c.args.lengths.now (drop (c.loop-part.part-index + 1) c.args.parts.now) n) (omega (arith, c.length-length.ensures));
  inside = omega (arith, c.length-length.ensures, c.loop-part.invariant.inside, c.if-left-length.false, length_next c.args.lengths.now c.args.parts.now c.loop-part.part-index no_part c.loop-part-test.true);
}

pub returns : goal.returns
returns c = sym (c.loop-part.invariant.same ∙ place_end c.args.lengths.now c.args.parts.now c.loop-part.part-index c.loop-part.left c.loop-part-test.false)

pub returns-then-left-length : goal.returns-then-left-length
returns-then-left-length c = sym (c.loop-part.invariant.same ∙ place_here c.args.lengths.now c.args.parts.now c.loop-part.part-index c.loop-part.left no_part c.loop-part-test.true (omega (arith, c.length-length.ensures, c.if-left-length.true)))
