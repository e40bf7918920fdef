use Rattle.std.proofs.Common.{arith, refl}
use Rattle.header_bits.specs.Bits.{update_bits}
use Rattle.header_bits.proofs.BitLemmas.{update_bits-next}
use Rattle.header_bits.proofs.reading.read_component.Goals as goal

pub loop-place-init : goal.loop-place-init
unfolding update_bits
loop-place-init c = record { read = refl; most = omega arith }

pub loop-place-preserved : goal.loop-place-preserved
loop-place-preserved c = record {
  read = update_bits-next _ _ _ _ _ _ _ _ c.loop-place.invariant.read c.read_optional_at-bits.ensures.value;
  most = omega (arith, c.loop-place.invariant.most, c.read_optional_at-bits.ensures.most, c.requires);
}
