use Rattle.std.proofs.Common.{true, false, refl, ◌∙◌}
use Rattle.vp8_tables.specs.declared.modes.TheConstants.{SPLIT_TREE, SPLIT_PROBABILITIES}
use Rattle.mode_parser.proofs.Walks.{leaf_below-on, leaf_below-end}
use Rattle.mode_parser.proofs.InterTrees.{split_starts-leaf}
use Rattle.mode_parser.proofs.split_vectors.read_split_starts.Goals as goal

pub returns-then-not-bit-clause-value : goal.returns-then-not-bit-clause-value
returns-then-not-bit-clause-value c = split_starts-leaf _ _ _ (leaf_below-end 5 SPLIT_TREE SPLIT_PROBABILITIES 0 _ _ _ false c.bit.ensures c.if-not-bit.true refl)

pub returns-then-not-bit-2-clause-value : goal.returns-then-not-bit-2-clause-value
returns-then-not-bit-2-clause-value c = split_starts-leaf _ _ _ (leaf_below-on 5 SPLIT_TREE SPLIT_PROBABILITIES 0 _ _ _ true c.bit.ensures c.if-not-bit.false refl ∙ leaf_below-end 4 SPLIT_TREE SPLIT_PROBABILITIES 2 _ _ _ false c.bit-2.ensures c.if-not-bit-2.true refl)

pub returns-then-bit-clause-value : goal.returns-then-bit-clause-value
returns-then-bit-clause-value c = split_starts-leaf _ _ _ (leaf_below-on 5 SPLIT_TREE SPLIT_PROBABILITIES 0 _ _ _ true c.bit.ensures c.if-not-bit.false refl ∙ leaf_below-on 4 SPLIT_TREE SPLIT_PROBABILITIES 2 _ _ _ true c.bit-2.ensures c.if-not-bit-2.false refl ∙ leaf_below-end 3 SPLIT_TREE SPLIT_PROBABILITIES 4 _ _ _ true c.bit-3.ensures c.if-bit.true refl)

pub returns-else-bit-clause-value : goal.returns-else-bit-clause-value
returns-else-bit-clause-value c = split_starts-leaf _ _ _ (leaf_below-on 5 SPLIT_TREE SPLIT_PROBABILITIES 0 _ _ _ true c.bit.ensures c.if-not-bit.false refl ∙ leaf_below-on 4 SPLIT_TREE SPLIT_PROBABILITIES 2 _ _ _ true c.bit-2.ensures c.if-not-bit-2.false refl ∙ leaf_below-end 3 SPLIT_TREE SPLIT_PROBABILITIES 4 _ _ _ false c.bit-3.ensures c.if-bit.false refl)
