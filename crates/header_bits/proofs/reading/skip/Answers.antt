use Rattle.std.proofs.Common.{refl}
use Rattle.header_bits.specs.Bits.{skip}
use Rattle.header_bits.proofs.BitLemmas.{skip-next}
use Rattle.header_bits.proofs.reading.skip.Goals as goal

pub loop-bits-init : goal.loop-bits-init
unfolding skip
loop-bits-init c = refl

pub loop-bits-preserved : goal.loop-bits-preserved
loop-bits-preserved c = skip-next _ _ _ _ _ _ c.loop-bits.invariant c.flag-bit.ensures
