use Rattle.stream_steps.proofs.Breaks.{each_outcome}
use Rattle.stream_steps.proofs.laws.each_has_outcome.Goals as goal

pub returns : goal.returns
returns c = each_outcome
