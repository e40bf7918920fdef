use Rattle.std.proofs.Common.{true, false, refl, ◌∙◌}
use Rattle.token_parser.proofs.SizeWalks.{size_below-on, size_below-in}
use Rattle.token_parser.proofs.sizes.read_largest.Goals as goal

pub returns-then-bit-clause-value : goal.returns-then-bit-clause-value
returns-then-bit-clause-value c = size_below-on 2 16 _ _ _ _ false c.bit.ensures c.if-not-bit.true refl ∙ size_below-in 1 18 _ _ _ _ _ true _ _ c.bit-then-not-bit.ensures c.if-bit.true refl refl refl c.read_size_in.ensures.value

pub returns-else-bit-clause-value : goal.returns-else-bit-clause-value
returns-else-bit-clause-value c = size_below-on 2 16 _ _ _ _ false c.bit.ensures c.if-not-bit.true refl ∙ size_below-in 1 18 _ _ _ _ _ false _ _ c.bit-then-not-bit.ensures c.if-bit.false refl refl refl c.read_size_in-else-bit.ensures.value

pub returns-then-bit-2-clause-value : goal.returns-then-bit-2-clause-value
returns-then-bit-2-clause-value c = size_below-on 2 16 _ _ _ _ true c.bit.ensures c.if-not-bit.false refl ∙ size_below-in 1 20 _ _ _ _ _ true _ _ c.bit-2.ensures c.if-bit-2.true refl refl refl c.read_size_in-then-bit-2.ensures.value

pub returns-else-bit-2-clause-value : goal.returns-else-bit-2-clause-value
returns-else-bit-2-clause-value c = size_below-on 2 16 _ _ _ _ true c.bit.ensures c.if-not-bit.false refl ∙ size_below-in 1 20 _ _ _ _ _ false _ _ c.bit-2.ensures c.if-bit-2.false refl refl refl c.read_size_in-else-bit-2.ensures.value
