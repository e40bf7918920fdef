use Rattle.std.proofs.Common.{true, false, refl, ◌∙◌}
use Rattle.vp8_tables.specs.declared.vectors.TheConstants.{SHORT_VECTOR_TREE}
use Rattle.mode_parser.proofs.Walks.{leaf_below-on, leaf_below-last, leaf_below-flag}
use Rattle.mode_parser.proofs.VectorReadings.{short_size-leaf}
use Rattle.mode_parser.proofs.vector_reading.read_short_size.Goals as goal

pub returns-then-not-bit-2-clause-value : goal.returns-then-not-bit-2-clause-value
returns-then-not-bit-2-clause-value c = short_size-leaf _ _ _ _ _ refl (leaf_below-on 13 SHORT_VECTOR_TREE _ 0 _ _ _ false c.bit.ensures c.if-not-bit.true refl ∙ leaf_below-on 12 SHORT_VECTOR_TREE _ 2 _ _ _ false c.bit-then-not-bit.ensures c.if-not-bit-2.true refl ∙ leaf_below-flag 11 SHORT_VECTOR_TREE _ 4 _ _ _ c.bit-then-not-bit-2.ensures refl refl refl refl)

pub returns-then-not-bit-clause-value : goal.returns-then-not-bit-clause-value
returns-then-not-bit-clause-value c = short_size-leaf _ _ _ _ _ refl (leaf_below-on 13 SHORT_VECTOR_TREE _ 0 _ _ _ false c.bit.ensures c.if-not-bit.true refl ∙ leaf_below-on 12 SHORT_VECTOR_TREE _ 2 _ _ _ true c.bit-then-not-bit.ensures c.if-not-bit-2.false refl ∙ leaf_below-last 11 SHORT_VECTOR_TREE _ 6 2 _ _ _ c.bit-then-not-bit-3.ensures refl refl refl refl)

pub returns-then-not-bit-3-clause-value : goal.returns-then-not-bit-3-clause-value
returns-then-not-bit-3-clause-value c = short_size-leaf _ _ _ _ _ refl (leaf_below-on 13 SHORT_VECTOR_TREE _ 0 _ _ _ true c.bit.ensures c.if-not-bit.false refl ∙ leaf_below-on 12 SHORT_VECTOR_TREE _ 8 _ _ _ false c.bit-2.ensures c.if-not-bit-3.true refl ∙ leaf_below-last 11 SHORT_VECTOR_TREE _ 10 4 _ _ _ c.bit-then-not-bit-3-2.ensures refl refl refl refl)

pub returns-clause-value : goal.returns-clause-value
returns-clause-value c = short_size-leaf _ _ _ _ _ refl (leaf_below-on 13 SHORT_VECTOR_TREE _ 0 _ _ _ true c.bit.ensures c.if-not-bit.false refl ∙ leaf_below-on 12 SHORT_VECTOR_TREE _ 8 _ _ _ true c.bit-2.ensures c.if-not-bit-3.false refl ∙ leaf_below-last 11 SHORT_VECTOR_TREE _ 12 6 _ _ _ c.bit-3.ensures refl refl refl refl)
