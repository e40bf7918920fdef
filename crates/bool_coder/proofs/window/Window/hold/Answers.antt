use Rattle.std.proofs.Common.{arith}
use Rattle.bool_coder.proofs.Windows.{hold-same, hold-small, small-small}
use Rattle.bool_coder.proofs.window.Window.hold.Goals as goal

pub returns-then-d-range-clause-same : goal.returns-then-d-range-clause-same
returns-then-d-range-clause-same c = hold-same _ _ _ _ (omega arith) c.if-d-range.true

pub returns-then-d-range-clause-small : goal.returns-then-d-range-clause-small
returns-then-d-range-clause-small c = hold-small _ _ _ (omega arith) c.if-d-range.true c.requires.range

pub returns-else-d-range-clause-small : goal.returns-else-d-range-clause-small
returns-else-d-range-clause-small c = small-small _ _ _ c.if-d-range.false c.requires.range
