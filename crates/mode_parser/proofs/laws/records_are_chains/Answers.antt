use Rattle.mode_parser.proofs.ChainLemmas.{mode_at-chain, first_modes-chain}
use Rattle.mode_parser.proofs.laws.records_are_chains.Goals as goal

pub returns : goal.returns
returns c = record { each = mode_at-chain; all = first_modes-chain }
