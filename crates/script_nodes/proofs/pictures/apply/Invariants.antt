use Rattle.script_nodes.proofs.Applied.{IsMade}
use Rattle.script_nodes.proofs.pictures.apply.Given as goal

abbrev pub invariant-loop-step : goal.invariant-loop-step
invariant-loop-step l = IsMade l.step-items l.step-index l.picture l.made
