use Rattle.std.proofs.Common.{true, false, refl, ◌∙◌}
use Rattle.vp8_tables.specs.declared.modes.TheConstants.{SUB_TREE}
use Rattle.mode_parser.proofs.Walks.{leaf_below-on, leaf_below-end}
use Rattle.mode_parser.proofs.KeyTrees.{sub_mode-leaf}
use Rattle.mode_parser.proofs.key_sub_modes.read_sub_mode.Goals as goal

pub returns-then-not-bit : goal.returns-then-not-bit
returns-then-not-bit c = sub_mode-leaf _ _ _ _ (leaf_below-end 17 SUB_TREE _ 0 _ _ _ false c.bit.ensures c.if-not-bit.true refl)

pub returns-then-not-bit-2 : goal.returns-then-not-bit-2
returns-then-not-bit-2 c = sub_mode-leaf _ _ _ _ (leaf_below-on 17 SUB_TREE _ 0 _ _ _ true c.bit.ensures c.if-not-bit.false refl ∙ leaf_below-end 16 SUB_TREE _ 2 _ _ _ false c.bit-2.ensures c.if-not-bit-2.true refl)

pub returns-then-not-bit-3 : goal.returns-then-not-bit-3
returns-then-not-bit-3 c = sub_mode-leaf _ _ _ _ (leaf_below-on 17 SUB_TREE _ 0 _ _ _ true c.bit.ensures c.if-not-bit.false refl ∙ leaf_below-on 16 SUB_TREE _ 2 _ _ _ true c.bit-2.ensures c.if-not-bit-2.false refl ∙ leaf_below-end 15 SUB_TREE _ 4 _ _ _ false c.bit-3.ensures c.if-not-bit-3.true refl)

pub returns-then-not-bit-5 : goal.returns-then-not-bit-5
returns-then-not-bit-5 c = sub_mode-leaf _ _ _ _ (leaf_below-on 17 SUB_TREE _ 0 _ _ _ true c.bit.ensures c.if-not-bit.false refl ∙ leaf_below-on 16 SUB_TREE _ 2 _ _ _ true c.bit-2.ensures c.if-not-bit-2.false refl ∙ leaf_below-on 15 SUB_TREE _ 4 _ _ _ true c.bit-3.ensures c.if-not-bit-3.false refl ∙ leaf_below-on 14 SUB_TREE _ 6 _ _ _ false c.bit-4.ensures c.if-not-bit-4.true refl ∙ leaf_below-end 13 SUB_TREE _ 8 _ _ _ false c.bit-then-not-bit-4.ensures c.if-not-bit-5.true refl)

pub returns-then-bit : goal.returns-then-bit
returns-then-bit c = sub_mode-leaf _ _ _ _ (leaf_below-on 17 SUB_TREE _ 0 _ _ _ true c.bit.ensures c.if-not-bit.false refl ∙ leaf_below-on 16 SUB_TREE _ 2 _ _ _ true c.bit-2.ensures c.if-not-bit-2.false refl ∙ leaf_below-on 15 SUB_TREE _ 4 _ _ _ true c.bit-3.ensures c.if-not-bit-3.false refl ∙ leaf_below-on 14 SUB_TREE _ 6 _ _ _ false c.bit-4.ensures c.if-not-bit-4.true refl ∙ leaf_below-on 13 SUB_TREE _ 8 _ _ _ true c.bit-then-not-bit-4.ensures c.if-not-bit-5.false refl ∙ leaf_below-end 12 SUB_TREE _ 10 _ _ _ true c.bit-then-not-bit-4-2.ensures c.if-bit.true refl)

pub returns-else-bit : goal.returns-else-bit
returns-else-bit c = sub_mode-leaf _ _ _ _ (leaf_below-on 17 SUB_TREE _ 0 _ _ _ true c.bit.ensures c.if-not-bit.false refl ∙ leaf_below-on 16 SUB_TREE _ 2 _ _ _ true c.bit-2.ensures c.if-not-bit-2.false refl ∙ leaf_below-on 15 SUB_TREE _ 4 _ _ _ true c.bit-3.ensures c.if-not-bit-3.false refl ∙ leaf_below-on 14 SUB_TREE _ 6 _ _ _ false c.bit-4.ensures c.if-not-bit-4.true refl ∙ leaf_below-on 13 SUB_TREE _ 8 _ _ _ true c.bit-then-not-bit-4.ensures c.if-not-bit-5.false refl ∙ leaf_below-end 12 SUB_TREE _ 10 _ _ _ false c.bit-then-not-bit-4-2.ensures c.if-bit.false refl)

pub returns-then-not-bit-6 : goal.returns-then-not-bit-6
returns-then-not-bit-6 c = sub_mode-leaf _ _ _ _ (leaf_below-on 17 SUB_TREE _ 0 _ _ _ true c.bit.ensures c.if-not-bit.false refl ∙ leaf_below-on 16 SUB_TREE _ 2 _ _ _ true c.bit-2.ensures c.if-not-bit-2.false refl ∙ leaf_below-on 15 SUB_TREE _ 4 _ _ _ true c.bit-3.ensures c.if-not-bit-3.false refl ∙ leaf_below-on 14 SUB_TREE _ 6 _ _ _ true c.bit-4.ensures c.if-not-bit-4.false refl ∙ leaf_below-end 13 SUB_TREE _ 12 _ _ _ false c.bit-5.ensures c.if-not-bit-6.true refl)

pub returns-then-not-bit-7 : goal.returns-then-not-bit-7
returns-then-not-bit-7 c = sub_mode-leaf _ _ _ _ (leaf_below-on 17 SUB_TREE _ 0 _ _ _ true c.bit.ensures c.if-not-bit.false refl ∙ leaf_below-on 16 SUB_TREE _ 2 _ _ _ true c.bit-2.ensures c.if-not-bit-2.false refl ∙ leaf_below-on 15 SUB_TREE _ 4 _ _ _ true c.bit-3.ensures c.if-not-bit-3.false refl ∙ leaf_below-on 14 SUB_TREE _ 6 _ _ _ true c.bit-4.ensures c.if-not-bit-4.false refl ∙ leaf_below-on 13 SUB_TREE _ 12 _ _ _ true c.bit-5.ensures c.if-not-bit-6.false refl ∙ leaf_below-end 12 SUB_TREE _ 14 _ _ _ false c.bit-6.ensures c.if-not-bit-7.true refl)

pub returns-then-bit-2 : goal.returns-then-bit-2
returns-then-bit-2 c = sub_mode-leaf _ _ _ _ (leaf_below-on 17 SUB_TREE _ 0 _ _ _ true c.bit.ensures c.if-not-bit.false refl ∙ leaf_below-on 16 SUB_TREE _ 2 _ _ _ true c.bit-2.ensures c.if-not-bit-2.false refl ∙ leaf_below-on 15 SUB_TREE _ 4 _ _ _ true c.bit-3.ensures c.if-not-bit-3.false refl ∙ leaf_below-on 14 SUB_TREE _ 6 _ _ _ true c.bit-4.ensures c.if-not-bit-4.false refl ∙ leaf_below-on 13 SUB_TREE _ 12 _ _ _ true c.bit-5.ensures c.if-not-bit-6.false refl ∙ leaf_below-on 12 SUB_TREE _ 14 _ _ _ true c.bit-6.ensures c.if-not-bit-7.false refl ∙ leaf_below-end 11 SUB_TREE _ 16 _ _ _ true c.bit-7.ensures c.if-bit-2.true refl)

pub returns-else-bit-2 : goal.returns-else-bit-2
returns-else-bit-2 c = sub_mode-leaf _ _ _ _ (leaf_below-on 17 SUB_TREE _ 0 _ _ _ true c.bit.ensures c.if-not-bit.false refl ∙ leaf_below-on 16 SUB_TREE _ 2 _ _ _ true c.bit-2.ensures c.if-not-bit-2.false refl ∙ leaf_below-on 15 SUB_TREE _ 4 _ _ _ true c.bit-3.ensures c.if-not-bit-3.false refl ∙ leaf_below-on 14 SUB_TREE _ 6 _ _ _ true c.bit-4.ensures c.if-not-bit-4.false refl ∙ leaf_below-on 13 SUB_TREE _ 12 _ _ _ true c.bit-5.ensures c.if-not-bit-6.false refl ∙ leaf_below-on 12 SUB_TREE _ 14 _ _ _ true c.bit-6.ensures c.if-not-bit-7.false refl ∙ leaf_below-end 11 SUB_TREE _ 16 _ _ _ false c.bit-7.ensures c.if-bit-2.false refl)
