use Rattle.std.proofs.Common.{ℕ, ◌<◌, get_or, arith}
use Rattle.bool_coder.proofs.Chains.{bind-chain}
use Rattle.frame_header.proofs.ChainLemmas.{fields-chain, trailing_fields-chain}
use Rattle.frame_header.proofs.laws.headers_are_chains.Goals as goal

pub returns : goal.returns
returns c =
    let small : (k : ℕ) → get_or c.args.updates.now k 0 < 256 = λ k. omega (arith, c.type_inv.updates k) in
    record {
      first = fields-chain;
      trailing = λ is_key before. trailing_fields-chain is_key c.args.updates.now before small;
      all = λ is_key before. bind-chain (fields-chain is_key before) (λ read. trailing_fields-chain is_key c.args.updates.now read.1 small);
    }
