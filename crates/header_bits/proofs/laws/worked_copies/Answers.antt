use Rattle.std.proofs.Common.{refl}
use Rattle.bool_coder.specs.Reading.{literal, more_bits}
use Rattle.bool_coder.specs.Reader.{read, renewed, trimmed}
use Rattle.header_bits.specs.Bits.{data_bits, delta_bits, delta_update_bits, first_bits, four_optional, map_bits, optional_at, quantizer_bits, segment_bits, segment_update_bits, skip, three_optional}
use Rattle.header_bits.specs.Copies.{copies_in, copy_number, copy_numbers, inter_copies}
use Rattle.header_bits.proofs.laws.worked_copies.Goals as goal

pub returns : goal.returns
unfolding copies_in copy_number copy_numbers inter_copies data_bits delta_bits delta_update_bits first_bits four_optional map_bits optional_at quantizer_bits segment_bits segment_update_bits skip three_optional literal more_bits read renewed trimmed
returns c = record { inter = refl; key = refl }
