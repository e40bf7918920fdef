use Rattle.header_bits.proofs.PacketLemmas.{bits_add_up, bits_end_there}
use Rattle.header_bits.proofs.laws.bits_add_up.Goals as goal

pub returns : goal.returns
returns c = record { sum = bits_add_up; ends = bits_end_there }
