use Rattle.token_parser.proofs.TokenLaws.{token-after_a_zero, token-any}
use Rattle.token_parser.proofs.laws.tokens_are_leaves.Goals as goal

pub returns : goal.returns
returns c = record { after_a_zero = token-after_a_zero; any = token-any }
