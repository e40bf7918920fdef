use Rattle.std.proofs.Common.{refl}
use Rattle.token_parser.specs.Blocks.{has_tokens}
use Rattle.token_parser.proofs.laws.worked_tokens.Goals as goal

pub returns-clause-none : goal.returns-clause-none
unfolding has_tokens
returns-clause-none c = refl

pub returns-clause-luma : goal.returns-clause-luma
unfolding has_tokens
returns-clause-luma c = refl

pub returns-clause-luma_after_y2 : goal.returns-clause-luma_after_y2
unfolding has_tokens
returns-clause-luma_after_y2 c = refl

pub returns-clause-chroma : goal.returns-clause-chroma
unfolding has_tokens
returns-clause-chroma c = refl

pub returns-clause-y2 : goal.returns-clause-y2
unfolding has_tokens
returns-clause-y2 c = refl
