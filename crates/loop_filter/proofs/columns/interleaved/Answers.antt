use Rattle.loop_filter.proofs.Transposed.{even_lane, odd_lane}
use Rattle.loop_filter.proofs.columns.interleaved.Goals as goal

pub returns-clause-a : goal.returns-clause-a
returns-clause-a c = even_lane c.args.a c.args.b c.fits-a.0

pub returns-clause-b : goal.returns-clause-b
returns-clause-b c = odd_lane c.args.a c.args.b c.fits-a.0
