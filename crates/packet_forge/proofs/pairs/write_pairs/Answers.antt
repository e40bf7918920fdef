use Rattle.packet_forge.proofs.Written.{pairs_more}
use Rattle.packet_forge.proofs.pairs.write_pairs.Goals as goal

pub loop-bit-preserved : goal.loop-bit-preserved
loop-bit-preserved c = pairs_more c.args.pairs.now c.loop-bit.bit-index _ _ _ c.loop-bit-test.true c.loop-bit.invariant c.in_ok-bit.ensures.value
