use Rattle.std.proofs.Common.{true, false, refl, ◌∙◌}
use Rattle.vp8_tables.specs.declared.modes.TheConstants.{SPLIT_TREE, SPLIT_PROBABILITIES}
use Rattle.mode_parser.proofs.Walks.{leaf_below-on, leaf_below-end}
use Rattle.mode_parser.proofs.FactLemmas.{which_split-leaf}
use Rattle.mode_parser.proofs.record_facts.read_which_split.Goals as goal

pub returns-then-not-bit : goal.returns-then-not-bit
returns-then-not-bit c = which_split-leaf _ _ _ (leaf_below-end 5 SPLIT_TREE SPLIT_PROBABILITIES 0 _ _ _ false c.bit.ensures c.if-not-bit.true refl)

pub returns-then-not-bit-2 : goal.returns-then-not-bit-2
returns-then-not-bit-2 c = which_split-leaf _ _ _ (leaf_below-on 5 SPLIT_TREE SPLIT_PROBABILITIES 0 _ _ _ true c.bit.ensures c.if-not-bit.false refl ∙ leaf_below-end 4 SPLIT_TREE SPLIT_PROBABILITIES 2 _ _ _ false c.bit-2.ensures c.if-not-bit-2.true refl)

pub returns-then-bit : goal.returns-then-bit
returns-then-bit c = which_split-leaf _ _ _ (leaf_below-on 5 SPLIT_TREE SPLIT_PROBABILITIES 0 _ _ _ true c.bit.ensures c.if-not-bit.false refl ∙ leaf_below-on 4 SPLIT_TREE SPLIT_PROBABILITIES 2 _ _ _ true c.bit-2.ensures c.if-not-bit-2.false refl ∙ leaf_below-end 3 SPLIT_TREE SPLIT_PROBABILITIES 4 _ _ _ true c.bit-3.ensures c.if-bit.true refl)

pub returns-else-bit : goal.returns-else-bit
returns-else-bit c = which_split-leaf _ _ _ (leaf_below-on 5 SPLIT_TREE SPLIT_PROBABILITIES 0 _ _ _ true c.bit.ensures c.if-not-bit.false refl ∙ leaf_below-on 4 SPLIT_TREE SPLIT_PROBABILITIES 2 _ _ _ true c.bit-2.ensures c.if-not-bit-2.false refl ∙ leaf_below-end 3 SPLIT_TREE SPLIT_PROBABILITIES 4 _ _ _ false c.bit-3.ensures c.if-bit.false refl)
