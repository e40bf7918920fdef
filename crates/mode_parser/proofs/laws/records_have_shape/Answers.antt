use Rattle.mode_parser.proofs.KeyShapes.{first_modes-length, first_modes-has_shape}
use Rattle.mode_parser.proofs.laws.records_have_shape.Goals as goal

pub returns : goal.returns
returns c = record {
  count = λ map. first_modes-length _ _ _ _ _ map _;
  shape = λ map. first_modes-has_shape _ _ _ _ _ map _;
}
