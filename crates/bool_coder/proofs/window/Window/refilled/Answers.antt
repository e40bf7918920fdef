use Rattle.std.proofs.Common.{◌∙◌, ap, arith}
use Rattle.bool_coder.specs.Reader.{level}
use Rattle.bool_coder.proofs.Windows.{refill-end}
use Rattle.bool_coder.proofs.window.Window.refilled.Goals as goal

pub returns-then-window-lt7-clause-same : goal.returns-then-window-lt7-clause-same
returns-then-window-lt7-clause-same c =
    refill-end _ _ _ c.args.range c.if-window-lt7.true c.pull.ensures.small (c.pull.ensures.full (omega arith)) ∙ ap level (c.pull.ensures.same c.args.range ∙ c.hold.ensures.same)
