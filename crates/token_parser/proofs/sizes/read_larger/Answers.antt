use Rattle.std.proofs.Common.{true, false, refl, ◌∙◌}
use Rattle.token_parser.proofs.SizeWalks.{size_below-on, size_below-small, size_below-in}
use Rattle.token_parser.proofs.sizes.read_larger.Goals as goal

pub returns-then-not-bit-2-clause-value : goal.returns-then-not-bit-2-clause-value
returns-then-not-bit-2-clause-value c = size_below-on 4 6 _ _ _ _ false c.bit.ensures c.if-not-bit.true refl ∙ size_below-small 3 8 _ _ _ _ false c.bit-then-not-bit.ensures c.if-not-bit-2.true refl refl

pub returns-then-bit-clause-value : goal.returns-then-bit-clause-value
returns-then-bit-clause-value c = size_below-on 4 6 _ _ _ _ false c.bit.ensures c.if-not-bit.true refl ∙ size_below-on 3 8 _ _ _ _ true c.bit-then-not-bit.ensures c.if-not-bit-2.false refl ∙ size_below-small 2 10 _ _ _ _ true c.bit-then-not-bit-2.ensures c.if-bit.true refl refl

pub returns-else-bit-clause-value : goal.returns-else-bit-clause-value
returns-else-bit-clause-value c = size_below-on 4 6 _ _ _ _ false c.bit.ensures c.if-not-bit.true refl ∙ size_below-on 3 8 _ _ _ _ true c.bit-then-not-bit.ensures c.if-not-bit-2.false refl ∙ size_below-small 2 10 _ _ _ _ false c.bit-then-not-bit-2.ensures c.if-bit.false refl refl

pub returns-then-bit-2-clause-value : goal.returns-then-bit-2-clause-value
returns-then-bit-2-clause-value c = size_below-on 4 6 _ _ _ _ true c.bit.ensures c.if-not-bit.false refl ∙ size_below-on 3 12 _ _ _ _ true c.bit-2.ensures c.if-bit-2.true refl ∙ c.read_largest.ensures.value

pub returns-then-bit-3-clause-value : goal.returns-then-bit-3-clause-value
returns-then-bit-3-clause-value c = size_below-on 4 6 _ _ _ _ true c.bit.ensures c.if-not-bit.false refl ∙ size_below-on 3 12 _ _ _ _ false c.bit-2.ensures c.if-bit-2.false refl ∙ size_below-in 2 14 _ _ _ _ _ true _ _ c.bit-3.ensures c.if-bit-3.true refl refl refl c.read_size_in.ensures.value

pub returns-else-bit-3-clause-value : goal.returns-else-bit-3-clause-value
returns-else-bit-3-clause-value c = size_below-on 4 6 _ _ _ _ true c.bit.ensures c.if-not-bit.false refl ∙ size_below-on 3 12 _ _ _ _ false c.bit-2.ensures c.if-bit-2.false refl ∙ size_below-in 2 14 _ _ _ _ _ false _ _ c.bit-3.ensures c.if-bit-3.false refl refl refl c.read_size_in-else-bit-3.ensures.value
