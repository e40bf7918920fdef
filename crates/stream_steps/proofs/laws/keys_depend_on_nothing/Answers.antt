use Rattle.stream_steps.proofs.Breaks.{key_anew}
use Rattle.stream_steps.proofs.laws.keys_depend_on_nothing.Goals as goal

pub returns : goal.returns
returns c = key_anew
