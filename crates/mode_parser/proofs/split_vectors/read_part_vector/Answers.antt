use Rattle.std.proofs.Common.{true, false, refl, ◌∙◌}
use Rattle.vp8_tables.specs.declared.modes.TheConstants.{PART_VECTOR_TREE}
use Rattle.mode_parser.proofs.Walks.{leaf_below-on, leaf_below-end}
use Rattle.mode_parser.proofs.InterTrees.{part_vector-left, part_vector-above, part_vector-zero, part_vector-new}
use Rattle.mode_parser.proofs.split_vectors.read_part_vector.Goals as goal

pub returns-then-not-bit : goal.returns-then-not-bit
returns-then-not-bit c = part_vector-left _ _ _ _ _ _ _ _ c.part_row.ensures.value refl (leaf_below-end 5 PART_VECTOR_TREE _ 0 _ _ _ false c.bit.ensures c.if-not-bit.true refl)

pub returns-then-not-bit-2 : goal.returns-then-not-bit-2
returns-then-not-bit-2 c = part_vector-above _ _ _ _ _ _ _ _ c.part_row.ensures.value refl (leaf_below-on 5 PART_VECTOR_TREE _ 0 _ _ _ true c.bit.ensures c.if-not-bit.false refl ∙ leaf_below-end 4 PART_VECTOR_TREE _ 2 _ _ _ false c.bit-2.ensures c.if-not-bit-2.true refl)

pub returns-then-not-bit-3 : goal.returns-then-not-bit-3
returns-then-not-bit-3 c = part_vector-zero _ _ _ _ _ _ _ _ c.part_row.ensures.value refl (leaf_below-on 5 PART_VECTOR_TREE _ 0 _ _ _ true c.bit.ensures c.if-not-bit.false refl ∙ leaf_below-on 4 PART_VECTOR_TREE _ 2 _ _ _ true c.bit-2.ensures c.if-not-bit-2.false refl ∙ leaf_below-end 3 PART_VECTOR_TREE _ 4 _ _ _ false c.bit-3.ensures c.if-not-bit-3.true refl)

pub returns : goal.returns
returns c = part_vector-new _ _ _ _ _ _ _ _ _ _ _ c.part_row.ensures.value refl (leaf_below-on 5 PART_VECTOR_TREE _ 0 _ _ _ true c.bit.ensures c.if-not-bit.false refl ∙ leaf_below-on 4 PART_VECTOR_TREE _ 2 _ _ _ true c.bit-2.ensures c.if-not-bit-2.false refl ∙ leaf_below-end 3 PART_VECTOR_TREE _ 4 _ _ _ true c.bit-3.ensures c.if-not-bit-3.false refl) c.read_vector.ensures.value c.plus.ensures
