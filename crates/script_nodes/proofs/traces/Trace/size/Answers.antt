use Rattle.std.proofs.Common.{sym, ◌∙◌}
use Rattle.script_nodes.proofs.Sizes.{err_none, size_refused}
use Rattle.script_nodes.proofs.traces.Trace.size.Goals as goal

pub returns-in_err-size : goal.returns-in_err-size
returns-in_err-size c =
    err_none c.from_residual.result c.from_residual.ensures.0
    ∙ sym (rw (← c.steps-step-items.ensures.value) (c.loop-step.invariant ∙ size_refused c.steps-step-items.result.now c.loop-step.step-index c.loop-step.size _ c.loop-step-test.true c.in_err-size.ensures))
