use Rattle.std.proofs.Common.{refl}
use Rattle.bool_coder.specs.Reader.{read, renewed, trimmed}
use Rattle.bool_coder.proofs.laws.worked_bits.Goals as goal

pub returns : goal.returns
unfolding read renewed trimmed
returns c = record { mixed = refl; zeros = refl; clamped_to_range = refl; unlikely = refl; likely = refl }
