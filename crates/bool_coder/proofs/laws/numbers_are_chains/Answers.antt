use Rattle.std.proofs.Common.{arith}
use Rattle.bool_coder.proofs.Chains.{flag-chain, literal-chain, signed-chain, leaf-chain}
use Rattle.bool_coder.proofs.laws.numbers_are_chains.Goals as goal

pub returns : goal.returns
returns c = record { flag = flag-chain; literal = literal-chain; signed = signed-chain; leaf = leaf-chain c.args.tree.now c.args.probs.now (λ k. omega (arith, c.type_inv.probs k)) }
