use Rattle.std.proofs.Common.{refl, arith}
use Rattle.loop_filter.specs.Lanes.{interleaved_halves}
use Rattle.loop_filter.proofs.Wide.{in_turn}
use Rattle.loop_filter.proofs.wide_columns.interleaved.Goals as goal

pub returns-clause-first : goal.returns-clause-first
unfolding interleaved_halves
returns-clause-first c = in_turn 0 c.args.a c.args.b _ _ c.fits-a.0 (omega arith) (in_turn 16 c.args.a c.args.b _ _ c.fits-a.0 (omega arith) refl)

pub returns-clause-second : goal.returns-clause-second
unfolding interleaved_halves
returns-clause-second c = in_turn 8 c.args.a c.args.b _ _ c.fits-a.0 (omega arith) (in_turn 24 c.args.a c.args.b _ _ c.fits-a.0 (omega arith) refl)
