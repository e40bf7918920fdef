use Rattle.std.proofs.Common.{true, false, refl, ◌∙◌}
use Rattle.token_parser.proofs.SizeWalks.{size_below-on, size_below-small}
use Rattle.token_parser.proofs.sizes.read_size.Goals as goal

pub returns-then-bit-clause-value : goal.returns-then-bit-clause-value
returns-then-bit-clause-value c = size_below-on 5 4 _ _ _ _ true c.bit.ensures c.if-bit.true refl ∙ c.read_larger.ensures.value

pub returns-else-bit-clause-value : goal.returns-else-bit-clause-value
returns-else-bit-clause-value c = size_below-small 5 4 _ _ _ _ false c.bit.ensures c.if-bit.false refl refl
