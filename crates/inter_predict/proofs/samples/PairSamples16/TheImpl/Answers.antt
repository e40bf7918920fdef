use Rattle.std.proofs.Common.{arith}
use Rattle.inter_predict.proofs.samples.PairSamples16.TheImpl.Goals as goal

pub store-asks : goal.store-asks
store-asks g c = record { out = c.requires.out; other = c.requires.other (omega arith) }
