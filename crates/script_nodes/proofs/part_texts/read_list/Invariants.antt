use Rattle.std.proofs.Common.{◌≡◌, length}
use Rattle.text_words.specs.Words.{words_of}
use Rattle.script_nodes.specs.Nodes.{parts_by}
use Rattle.script_nodes.proofs.PartWords.{parts_behind}
use Rattle.script_nodes.proofs.part_texts.read_list.Given as goal

abbrev pub invariant-loop-next : goal.invariant-loop-next
invariant-loop-next l = parts_by (words_of l.words) ≡ parts_behind l.parts.items (parts_by (words_of l.left))

abbrev pub decreases-loop-next : goal.decreases-loop-next
decreases-loop-next l = length l.left
