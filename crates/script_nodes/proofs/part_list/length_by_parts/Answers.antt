use Rattle.std.proofs.Common.{arith}
use Rattle.script_nodes.proofs.PartSums.{length_next, length_end, no_part}
use Rattle.script_nodes.proofs.part_list.length_by_parts.Goals as goal

pub overflow_add-total : goal.overflow_add-total
overflow_add-total c = omega (arith, c.length-total.ensures, c.loop-part.invariant, c.requires, length_next c.args.lengths.now c.args.parts.now c.loop-part.part-index no_part c.loop-part-test.true)

pub loop-part-preserved : goal.loop-part-preserved
loop-part-preserved c = omega (arith, c.length-total.ensures, c.loop-part.invariant, length_next c.args.lengths.now c.args.parts.now c.loop-part.part-index no_part c.loop-part-test.true)

pub returns : goal.returns
returns c = omega (arith, c.loop-part.invariant, length_end c.args.lengths.now c.args.parts.now c.loop-part.part-index c.loop-part-test.false)
