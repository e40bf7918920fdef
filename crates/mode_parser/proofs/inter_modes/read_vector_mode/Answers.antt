use Rattle.std.proofs.Common.{true, false, refl, ◌∙◌}
use Rattle.vp8_tables.specs.declared.modes.TheConstants.{VECTOR_MODE_TREE}
use Rattle.mode_parser.proofs.Walks.{leaf_below-on, leaf_below-end}
use Rattle.mode_parser.proofs.InterTrees.{vector_mode-leaf}
use Rattle.mode_parser.proofs.inter_modes.read_vector_mode.Goals as goal

pub returns-then-not-bit : goal.returns-then-not-bit
returns-then-not-bit c = vector_mode-leaf _ _ _ _ _ refl (leaf_below-end 7 VECTOR_MODE_TREE _ 0 _ _ _ false c.bit.ensures c.if-not-bit.true refl)

pub returns-then-not-bit-2 : goal.returns-then-not-bit-2
returns-then-not-bit-2 c = vector_mode-leaf _ _ _ _ _ refl (leaf_below-on 7 VECTOR_MODE_TREE _ 0 _ _ _ true c.bit.ensures c.if-not-bit.false refl ∙ leaf_below-end 6 VECTOR_MODE_TREE _ 2 _ _ _ false c.bit-2.ensures c.if-not-bit-2.true refl)

pub returns-then-not-bit-3 : goal.returns-then-not-bit-3
returns-then-not-bit-3 c = vector_mode-leaf _ _ _ _ _ refl (leaf_below-on 7 VECTOR_MODE_TREE _ 0 _ _ _ true c.bit.ensures c.if-not-bit.false refl ∙ leaf_below-on 6 VECTOR_MODE_TREE _ 2 _ _ _ true c.bit-2.ensures c.if-not-bit-2.false refl ∙ leaf_below-end 5 VECTOR_MODE_TREE _ 4 _ _ _ false c.bit-3.ensures c.if-not-bit-3.true refl)

pub returns-then-bit : goal.returns-then-bit
returns-then-bit c = vector_mode-leaf _ _ _ _ _ refl (leaf_below-on 7 VECTOR_MODE_TREE _ 0 _ _ _ true c.bit.ensures c.if-not-bit.false refl ∙ leaf_below-on 6 VECTOR_MODE_TREE _ 2 _ _ _ true c.bit-2.ensures c.if-not-bit-2.false refl ∙ leaf_below-on 5 VECTOR_MODE_TREE _ 4 _ _ _ true c.bit-3.ensures c.if-not-bit-3.false refl ∙ leaf_below-end 4 VECTOR_MODE_TREE _ 6 _ _ _ true c.bit-4.ensures c.if-bit.true refl)

pub returns-else-bit : goal.returns-else-bit
returns-else-bit c = vector_mode-leaf _ _ _ _ _ refl (leaf_below-on 7 VECTOR_MODE_TREE _ 0 _ _ _ true c.bit.ensures c.if-not-bit.false refl ∙ leaf_below-on 6 VECTOR_MODE_TREE _ 2 _ _ _ true c.bit-2.ensures c.if-not-bit-2.false refl ∙ leaf_below-on 5 VECTOR_MODE_TREE _ 4 _ _ _ true c.bit-3.ensures c.if-not-bit-3.false refl ∙ leaf_below-end 4 VECTOR_MODE_TREE _ 6 _ _ _ false c.bit-4.ensures c.if-bit.false refl)
