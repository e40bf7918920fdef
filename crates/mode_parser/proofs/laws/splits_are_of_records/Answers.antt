use Rattle.mode_parser.proofs.ChainLemmas.{split_at-chain}
use Rattle.mode_parser.proofs.SplitParts.{at-split}
use Rattle.mode_parser.proofs.laws.splits_are_of_records.Goals as goal

pub returns : goal.returns
returns c = record { same = at-split; chains = split_at-chain }
