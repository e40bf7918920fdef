use Rattle.inter_predict.proofs.TappedLanes.{middle_lanes}
use Rattle.inter_predict.proofs.lanes.middle.Goals as goal

pub returns : goal.returns
returns g c = middle_lanes g.row.N c.args.taps c.args.c c.args.d c.requires.small c.fits-c.0 c.fits-d.0 c.requires.bytes
