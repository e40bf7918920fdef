use Rattle.std.proofs.Common.{[], ◌∷◌, ◌++◌, arith}
use Rattle.webm_files.proofs.Walked.{walked_more}
use Rattle.webm_files.proofs.BlockLemmas.{base_more, blocks_more, count_more}
use Rattle.webm_files.proofs.packets.count_packets.Goals as goal

pub elements-preserved : goal.elements-preserved
elements-preserved c =
    let file = c.args.bytes.now in
    let element = c.in-Some.element in
    let next = c.in-Some.ensures in
    let met = c.elements.invariant in
    let more = blocks_more file met.elements element c.elements.base c.block_of.result met.base c.block_of.ensures.block in record {
      inside = next.inside;
      few = omega (arith, met.few, next.later, next.least, c.count_one-count.ensures.most);
      elements = met.elements ++ element ∷ [];
      walked = walked_more file 0 met.elements _ element met.walked next.some;
      base = base_more file met.elements element c.elements.base _ met.base c.base_after-base.ensures;
      count = count_more c.args.video _ _ _ c.elements.count c.count_one-count.result more met.count c.count_one-count.ensures.count;
    }

pub returns : goal.returns
returns c =
    let met = c.elements.invariant in record {
      walk = record { elements = met.elements; end = c.elements.at };
      is = record { walked = met.walked; over = c.in_default.ensures.none };
      count = met.count;
    }
