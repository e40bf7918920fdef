use Rattle.std.proofs.Common.{◌≡◌, length}
use Rattle.text_words.specs.Words.{words_of}
use Rattle.explanations.specs.Nodes.{wrong_part}
use Rattle.explanations.proofs.nodes.wrong_part.Given as goal

abbrev pub invariant-loop-word : goal.invariant-loop-word
invariant-loop-word l = wrong_part 3 (words_of l.words) ≡ wrong_part l.missing (words_of l.left)

abbrev pub decreases-loop-word : goal.decreases-loop-word
decreases-loop-word l = length l.left
