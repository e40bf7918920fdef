use Rattle.std.proofs.Common.{rules}
use Rattle.text_words.specs.Words.{words_of}
use Rattle.script_nodes.proofs.PartWords.{all_parts_read, none_read, one_read}
use Rattle.script_nodes.proofs.part_texts.check_parts.Goals as goal

pub loop-part-init : goal.loop-part-init
loop-part-init c = none_read c.args.own c.args.below.now (words_of c.args.words.now) c.of_none-facts.result c.of_none-facts.ensures

pub loop-part-preserved : goal.loop-part-preserved
loop-part-preserved c =
    one_read c.args.own c.args.below.now (words_of c.args.words.now) (words_of c.loop-part.left.now) (words_of c.in-Some.rest.now) c.loop-part.facts c.with_part-facts.result c.in-Some.part c.loop-part.invariant (search rules) c.with_part-facts.ensures

pub returns : goal.returns
returns c = all_parts_read c.args.own c.args.sources c.args.below.now (words_of c.args.words.now) (words_of c.loop-part.left.now) c.in_ok-next_word.field-0.0.now (words_of c.in_ok-next_word.field-0.1.now) c.loop-part.facts c.loop-part.invariant (search rules) c.in_ok-next_word.ensures.next
