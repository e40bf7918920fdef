use Rattle.std.proofs.Common.{refl}
use Rattle.bool_coder.specs.Reading.{literal, more_bits, signed}
use Rattle.bool_coder.specs.Reader.{read, renewed, trimmed}
use Rattle.header_bits.specs.Bits.{optional_at, skip}
use Rattle.header_bits.proofs.laws.zeros_take_bits.Goals as goal

pub returns : goal.returns
unfolding signed literal more_bits read renewed trimmed optional_at skip
returns c = record { coded = refl; coded_bits = refl; absent = refl; absent_bits = refl }
