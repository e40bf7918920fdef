use Rattle.lossless_cuts.proofs.Biases.{step_unbiased}
use Rattle.lossless_cuts.proofs.laws.biases_are_set_anew.Goals as goal

pub returns : goal.returns
returns c = step_unbiased
