use Rattle.std.proofs.Common.{true, false, refl, ◌∙◌}
use Rattle.vp8_tables.specs.declared.modes.TheConstants.{INTER_Y_TREE}
use Rattle.mode_parser.proofs.Walks.{leaf_below-on, leaf_below-end}
use Rattle.mode_parser.proofs.InterTrees.{inter_y_mode-leaf}
use Rattle.mode_parser.proofs.inter_modes.read_y_mode.Goals as goal

pub returns-then-not-bit : goal.returns-then-not-bit
returns-then-not-bit c = inter_y_mode-leaf _ _ _ _ (leaf_below-end 7 INTER_Y_TREE _ 0 _ _ _ false c.bit.ensures c.if-not-bit.true refl)

pub returns-then-bit : goal.returns-then-bit
returns-then-bit c = inter_y_mode-leaf _ _ _ _ (leaf_below-on 7 INTER_Y_TREE _ 0 _ _ _ true c.bit.ensures c.if-not-bit.false refl ∙ leaf_below-on 6 INTER_Y_TREE _ 2 _ _ _ false c.bit-2.ensures c.if-not-bit-2.true refl ∙ leaf_below-end 5 INTER_Y_TREE _ 4 _ _ _ true c.bit-then-not-bit-2.ensures c.if-bit.true refl)

pub returns-else-bit : goal.returns-else-bit
returns-else-bit c = inter_y_mode-leaf _ _ _ _ (leaf_below-on 7 INTER_Y_TREE _ 0 _ _ _ true c.bit.ensures c.if-not-bit.false refl ∙ leaf_below-on 6 INTER_Y_TREE _ 2 _ _ _ false c.bit-2.ensures c.if-not-bit-2.true refl ∙ leaf_below-end 5 INTER_Y_TREE _ 4 _ _ _ false c.bit-then-not-bit-2.ensures c.if-bit.false refl)

pub returns-then-bit-2 : goal.returns-then-bit-2
returns-then-bit-2 c = inter_y_mode-leaf _ _ _ _ (leaf_below-on 7 INTER_Y_TREE _ 0 _ _ _ true c.bit.ensures c.if-not-bit.false refl ∙ leaf_below-on 6 INTER_Y_TREE _ 2 _ _ _ true c.bit-2.ensures c.if-not-bit-2.false refl ∙ leaf_below-end 5 INTER_Y_TREE _ 6 _ _ _ true c.bit-3.ensures c.if-bit-2.true refl)

pub returns-else-bit-2 : goal.returns-else-bit-2
returns-else-bit-2 c = inter_y_mode-leaf _ _ _ _ (leaf_below-on 7 INTER_Y_TREE _ 0 _ _ _ true c.bit.ensures c.if-not-bit.false refl ∙ leaf_below-on 6 INTER_Y_TREE _ 2 _ _ _ true c.bit-2.ensures c.if-not-bit-2.false refl ∙ leaf_below-end 5 INTER_Y_TREE _ 6 _ _ _ false c.bit-3.ensures c.if-bit-2.false refl)
