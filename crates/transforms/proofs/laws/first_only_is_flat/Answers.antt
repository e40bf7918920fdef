use Rattle.transforms.specs.Transforms.{eighth}
use Rattle.transforms.proofs.Passes.{inverse_dct-first}
use Rattle.transforms.proofs.laws.first_only_is_flat.Goals as goal

pub returns : goal.returns
unfolding eighth
returns c = λ first column row fits inside below. inverse_dct-first first fits column row inside below
