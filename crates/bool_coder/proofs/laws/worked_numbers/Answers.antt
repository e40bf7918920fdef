use Rattle.std.proofs.Common.{refl}
use Rattle.bool_coder.specs.Reader.{read, renewed, trimmed}
use Rattle.bool_coder.specs.Reading.{more_bits, literal, signed}
use Rattle.bool_coder.proofs.laws.worked_numbers.Goals as goal

pub returns : goal.returns
unfolding read renewed trimmed more_bits literal signed
returns c = record { literal = refl; plus = refl; minus = refl; absent = refl }
