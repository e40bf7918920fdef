use Rattle.std.proofs.Common.{◌≡◌, map}
use Rattle.std.specs.List.{list_any, range_with_len}
use Rattle.token_parser.specs.Blocks.{has_token}
use Rattle.token_parser.proofs.tokens.Tokens.has_tokens.Given as goal

abbrev pub invariant-loop-k : goal.invariant-loop-k
invariant-loop-k l = l.found ≡ list_any (λ has. has) (map (has_token l.has_y2 l.self) (range_with_len 0 l.k))
