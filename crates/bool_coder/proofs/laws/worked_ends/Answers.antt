use Rattle.std.proofs.Common.{refl}
use Rattle.bool_coder.specs.Reader.{read, renewed, trimmed}
use Rattle.bool_coder.specs.Taken.{shifts, taken_by_bit, taken}
use Rattle.bool_coder.proofs.laws.worked_ends.Goals as goal

pub returns : goal.returns
unfolding read renewed trimmed shifts taken_by_bit taken
returns c = record { empty = refl; first = refl; zeros = refl; ones = refl; inside = refl; last = refl }
