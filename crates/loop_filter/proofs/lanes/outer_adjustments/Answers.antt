use Rattle.std.proofs.Common.{arith}
use Rattle.loop_filter.proofs.LaneLemmas.{shares_fit, shares_at, far_shared, middle_shared, near_shared}
use Rattle.loop_filter.proofs.lanes.outer_adjustments.Goals as goal

pub overflow_cast-result : goal.overflow_cast-result
overflow_cast-result c = shares_fit 9 c.args.numbers _ (omega arith) c.fits-numbers.1 (far_shared _ c.args.numbers c.fits-numbers)

pub overflow_cast-result-2 : goal.overflow_cast-result-2
overflow_cast-result-2 c = shares_fit 18 c.args.numbers _ (omega arith) c.fits-numbers.1 (middle_shared _ c.args.numbers c.fits-numbers)

pub overflow_cast-result-3 : goal.overflow_cast-result-3
overflow_cast-result-3 c = shares_fit 27 c.args.numbers _ (omega arith) c.fits-numbers.1 (near_shared _ c.args.numbers c.fits-numbers)

pub returns-clause-far : goal.returns-clause-far
returns-clause-far c = λ i less. shares_at 9 c.args.numbers _ _ i c.fits-numbers.0 (far_shared _ c.args.numbers c.fits-numbers) less

pub returns-clause-middle : goal.returns-clause-middle
returns-clause-middle c = λ i less. shares_at 18 c.args.numbers _ _ i c.fits-numbers.0 (middle_shared _ c.args.numbers c.fits-numbers) less

pub returns-clause-near : goal.returns-clause-near
returns-clause-near c = λ i less. shares_at 27 c.args.numbers _ _ i c.fits-numbers.0 (near_shared _ c.args.numbers c.fits-numbers) less
