use Rattle.std.proofs.Common.{ℕ, ◌<◌, get_or, arith}
use Rattle.token_parser.proofs.ChainLemmas.{first_blocks-chain}
use Rattle.token_parser.proofs.laws.tokens_are_chains.Goals as goal

pub returns : goal.returns
returns c =
    let small : (k : ℕ) → get_or c.args.probs.now k 0 < 256 = λ k. omega (arith, c.type_inv.probs k) in
    λ has_y2 before. first_blocks-chain 25 c.args.probs.now has_y2 before small
