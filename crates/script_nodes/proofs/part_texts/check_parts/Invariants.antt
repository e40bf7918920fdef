use Rattle.std.proofs.Common.{length}
use Rattle.text_words.specs.Words.{words_of}
use Rattle.script_nodes.proofs.PartWords.{AreRead}
use Rattle.script_nodes.proofs.part_texts.check_parts.Given as goal

abbrev pub invariant-loop-part : goal.invariant-loop-part
invariant-loop-part l = AreRead l.own l.below (words_of l.words) (words_of l.left) l.facts

abbrev pub decreases-loop-part : goal.decreases-loop-part
decreases-loop-part l = length l.left
