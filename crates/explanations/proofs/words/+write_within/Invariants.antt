use Rattle.std.proofs.Common.{length}
use Rattle.explanations.proofs.words.+write_within.Given as goal

abbrev pub decreases-write_within : goal.decreases-write_within
decreases-write_within g l = length l.bytes.now
