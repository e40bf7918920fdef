use Rattle.std.proofs.Common.{rules, ◌∙◌, arith, length-set}
use Rattle.script_nodes.proofs.PartSums.{needs_next, no_part}
use Rattle.script_nodes.proofs.part_list.needs_of.Goals as goal

pub loop-part-preserved : goal.loop-part-preserved
loop-part-preserved c = record {
  long = length-set c.loop-part.needs c.min-clip.result c.max.result ∙ c.loop-part.invariant.long;
  each = needs_next c.loop-part.needs c.args.parts.now c.loop-part.part-index c.min-clip.result c.added-need.result c.max.result no_part c.loop-part.invariant.long c.loop-part-test.true (search rules) (omega (arith, c.added.ensures.value, c.added-need.ensures.value)) (search rules) c.loop-part.invariant.each;
}
