use Rattle.std.proofs.Common.{true, false, refl, ◌∙◌}
use Rattle.vp8_tables.specs.declared.modes.TheConstants.{SEGMENT_TREE}
use Rattle.mode_parser.proofs.Walks.{leaf_below-on, leaf_below-flag, leaf_below-last}
use Rattle.mode_parser.proofs.KeyTrees.{segment_number-leaf}
use Rattle.mode_parser.proofs.segments.read_segment_number.Goals as goal

pub returns-then-not-bit : goal.returns-then-not-bit
returns-then-not-bit c = rw c.from.ensures (segment_number-leaf _ _ _ _ (leaf_below-on 5 SEGMENT_TREE _ 0 _ _ _ false c.bit.ensures c.if-not-bit.true refl ∙ leaf_below-flag 4 SEGMENT_TREE _ 2 _ _ _ c.bit-then-not-bit.ensures refl refl refl refl))

pub returns : goal.returns
returns c = rw c.from-2.ensures (segment_number-leaf _ _ _ _ (leaf_below-on 5 SEGMENT_TREE _ 0 _ _ _ true c.bit.ensures c.if-not-bit.false refl ∙ leaf_below-last 4 SEGMENT_TREE _ 4 2 _ _ _ c.bit-2.ensures refl refl refl refl))
