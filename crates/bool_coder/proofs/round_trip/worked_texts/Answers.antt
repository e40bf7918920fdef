use Rattle.std.proofs.Common.{refl}
use Rattle.bool_coder.specs.CodeText.{written, code_renewed}
use Rattle.bool_coder.proofs.round_trip.worked_texts.Goals as goal

pub returns : goal.returns
unfolding written code_renewed
returns c = record { none = refl; one = refl; three = refl }
