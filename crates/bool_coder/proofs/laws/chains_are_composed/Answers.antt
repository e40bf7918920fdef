use Rattle.bool_coder.proofs.Chains.{give-chain, read-chain, bind-chain}
use Rattle.bool_coder.proofs.laws.chains_are_composed.Goals as goal

pub returns : goal.returns
returns g c = record { value = give-chain; bit = read-chain; next = λ first next one then. bind-chain one then }
