use Rattle.stream_steps.proofs.Breaks.{break_named}
use Rattle.stream_steps.proofs.laws.breaks_are_named.Goals as goal

pub returns : goal.returns
returns c = break_named
