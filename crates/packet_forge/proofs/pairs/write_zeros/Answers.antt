use Rattle.packet_forge.proofs.Written.{zeros_more}
use Rattle.packet_forge.proofs.pairs.write_zeros.Goals as goal

pub loop-probability-preserved : goal.loop-probability-preserved
loop-probability-preserved c = zeros_more c.args.probabilities.now c.loop-probability.probability-index _ _ _ c.loop-probability-test.true c.loop-probability.invariant c.in_ok-bit.ensures.value
