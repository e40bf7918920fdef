use Rattle.std.proofs.Common.{arith}
use Rattle.bool_coder.proofs.Windows.{take-fits, take-small, take-same}
use Rattle.bool_coder.proofs.window.Window.take.Goals as goal

pub overflow_mul-self : goal.overflow_mul-self
overflow_mul-self c = omega (arith, take-fits _ _ c.requires.small c.requires.room)

pub overflow_add-self : goal.overflow_add-self
overflow_add-self c = omega (arith, take-fits _ _ c.requires.small c.requires.room)

pub returns-clause-same : goal.returns-clause-same
returns-clause-same c = λ range. take-same _ _ _ _ _ range (omega arith) c.requires.next

pub returns-clause-small : goal.returns-clause-small
returns-clause-small c = take-small _ _ _ c.requires.small (omega arith)
