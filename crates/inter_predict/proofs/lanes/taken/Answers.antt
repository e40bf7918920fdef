use Rattle.inter_predict.proofs.TappedLanes.{taken_lanes}
use Rattle.inter_predict.proofs.lanes.taken.Goals as goal

pub returns : goal.returns
returns g c = taken_lanes g.row.N c.args.taps c.args.b c.args.e c.requires.small c.fits-b.0 c.fits-e.0 c.requires.bytes
