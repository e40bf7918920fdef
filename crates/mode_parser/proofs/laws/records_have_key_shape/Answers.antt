use Rattle.std.proofs.Common.{refl}
use Rattle.mode_parser.proofs.KeyShapes.{first_modes-shape}
use Rattle.mode_parser.proofs.laws.records_have_key_shape.Goals as goal

pub returns : goal.returns
returns c = record {
  shape = λ map. first_modes-shape _ _ _ _ _ map _ c.requires.key;
  map = λ map. rw (c.requires.kept, c.requires.key) refl;
}
