use Rattle.std.proofs.Common.{◌≡◌, [], ◌∷◌, ◌++◌, ◌∙◌, sym, subst, option_to_list}
use Rattle.std.specs.Prelude.{not}
use Rattle.webm_files.specs.Blocks.{blocks_of}
use Rattle.webm_files.specs.Packets.{HasBlocks, is_listed, packets_in}
use Rattle.webm_files.proofs.Walked.{walked_more}
use Rattle.webm_files.proofs.BlockLemmas.{base_more, blocks_more, filter_more, packets_more}
use Rattle.webm_files.proofs.packets.read_blocks.Goals as goal

pub elements-preserved : goal.elements-preserved
elements-preserved g c =
    let file = c.whole-bytes.result.now in
    let element = c.in-Some.element in
    let next = c.in-Some.ensures in
    let met = c.elements.invariant in
    let before = blocks_of file met.elements in
    let more = blocks_more file met.elements element c.elements.base c.block_of-block.result met.base c.block_of-block.ensures.block in
    let added = option_to_list c.block_of-block.result in
    let all = blocks_of file (met.elements ++ element ∷ []) in record {
      inside = next.inside;
      elements = met.elements ++ element ∷ [];
      walked = walked_more file 0 met.elements _ element met.walked next.some;
      base = base_more file met.elements element c.elements.base _ met.base c.base_after-base.ensures;
      packets = packets_more file c.args.video before added all _ _ more met.packets (subst (λ f. c.push_packet.new.packets.items ≡ c.elements.packets.items ++ packets_in f c.args.video added) (sym c.whole-bytes.ensures) c.in_ok-push_packet.ensures);
      listed = filter_more (is_listed c.args.numbers.now) before added all _ _ more met.listed c.in_ok-push_block.ensures.listed;
      unlisted = filter_more (λ block. not (is_listed c.args.numbers.now block)) before added all _ _ more met.unlisted c.in_ok-push_block.ensures.unlisted;
    }

pub returns : goal.returns
returns g c =
    let met = c.elements.invariant in
    let found : HasBlocks c.whole-bytes.result.now c.args.numbers.now c.args.video (record { packets = c.new.result; listed = c.elements.listed; unlisted = c.elements.unlisted }) = record {
      walk = record { elements = met.elements; end = c.elements.at };
      is = record { walked = met.walked; over = c.in_default.ensures.none };
      packets = c.new.ensures ∙ met.packets;
      listed = met.listed;
      unlisted = met.unlisted;
    } in
    subst (λ f. HasBlocks f c.args.numbers.now c.args.video (record { packets = c.new.result; listed = c.elements.listed; unlisted = c.elements.unlisted })) c.whole-bytes.ensures found
