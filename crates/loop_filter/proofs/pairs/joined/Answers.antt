use Rattle.loop_filter.proofs.Transposed.{first_lane, second_lane}
use Rattle.loop_filter.proofs.pairs.joined.Goals as goal

pub returns-clause-a : goal.returns-clause-a
returns-clause-a c = first_lane c.args.a c.args.b c.fits-a.0

pub returns-clause-b : goal.returns-clause-b
returns-clause-b c = second_lane c.args.a c.args.b c.fits-a.0
