use Rattle.std.proofs.Common.{refl}
use Rattle.bool_coder.specs.Reader.{read, renewed, trimmed}
use Rattle.header_bits.specs.Bits.{all_bits, data_bits, delta_bits, delta_update_bits, first_bits, four_optional, header_bits, inter_bits, map_bits, optional_at, quantizer_bits, reference_bits, segment_bits, segment_update_bits, skip, three_optional, update_bits}
use Rattle.header_bits.proofs.laws.worked_bits.Goals as goal

pub returns : goal.returns
unfolding all_bits data_bits delta_bits delta_update_bits first_bits four_optional header_bits inter_bits map_bits optional_at quantizer_bits reference_bits segment_bits segment_update_bits skip three_optional update_bits read renewed trimmed
returns c = record { fields = refl; key = refl; inter = refl }
