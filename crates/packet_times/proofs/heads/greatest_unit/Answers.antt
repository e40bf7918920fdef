use Rattle.std.proofs.Common.{refl}
use Rattle.packet_times.proofs.Units.{none_for, twice_more, twice_no_more}
use Rattle.packet_times.proofs.heads.greatest_unit.Goals as goal

pub returns-in_err-unit-2-clause-none : goal.returns-in_err-unit-2-clause-none
returns-in_err-unit-2-clause-none c =
    none_for c.from_residual-in_err-unit-2.result (twice_no_more _ c.loop-base.unit c.args.bases.now c.loop-base.base-index c.loop-base-test.true _ refl c.loop-base.invariant c.in_err-unit-2.ensures.none)

pub loop-base-preserved : goal.loop-base-preserved
loop-base-preserved c = twice_more _ c.loop-base.unit c.in_ok-unit-2.unit c.args.bases.now c.loop-base.base-index c.loop-base-test.true _ refl c.loop-base.invariant c.in_ok-unit-2.ensures.greatest
