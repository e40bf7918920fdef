use Rattle.mode_parser.proofs.Zeros.{first_modes-zeros}
use Rattle.mode_parser.proofs.laws.zeros_are_dc.Goals as goal

pub returns : goal.returns
returns c = λ map. (first_modes-zeros _ _ _ _ _ map _ c.requires.key c.requires.zeros).same
