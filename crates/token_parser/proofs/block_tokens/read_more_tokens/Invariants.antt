use Rattle.std.proofs.Common.{◌≡◌, ◌-◌, ◌<◌, ◌≤◌, true}
use Rattle.token_parser.specs.Tokens.{nodes_at, tokens_from}
use Rattle.token_parser.proofs.block_tokens.read_more_tokens.Given as goal

abbrev pub invariant-tokens : goal.invariant-tokens
invariant-tokens l = record {
  same : tokens_from (16 - l.place) l.rows l.kind l.place l.context true l.coefficients l.reader ≡ tokens_from (16 - l.first) l.rows l.kind l.first l.flags true l.fn.coefficients l.fn.reader;
  nodes : l.nodes ≡ nodes_at l.rows l.kind l.place l.context;
  least : l.first ≤ l.place;
  most : l.place < 16;
}

abbrev pub decreases-tokens : goal.decreases-tokens
decreases-tokens l = 16 - l.place
