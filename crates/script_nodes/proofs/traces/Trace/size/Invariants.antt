use Rattle.std.proofs.Common.{◌≡◌, drop}
use Rattle.script_nodes.specs.Shown.{steps_size}
use Rattle.script_nodes.proofs.traces.Trace.size.Given as goal

abbrev pub invariant-loop-step : goal.invariant-loop-step
invariant-loop-step l = steps_size l.step-items (l.width, l.height) ≡ steps_size (drop l.step-index l.step-items) l.size
