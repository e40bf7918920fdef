use Rattle.std.proofs.Common.{arith, rules}
use Rattle.inter_predict.proofs.TappedLanes.{added_lanes}
use Rattle.inter_predict.proofs.lanes.added.Goals as goal

pub middle-requires : goal.middle-requires
middle-requires g c = (omega arith, (λ lane less. ((c.requires.bytes lane less).1, (c.requires.bytes lane less).2), c.requires.small))

pub returns : goal.returns
returns g c = added_lanes g.row.N c.args.taps c.middle.result c.args.a c.args.c c.args.d c.args.f c.requires.small (search rules) c.fits-a.0 c.fits-f.0 c.requires.bytes c.middle.ensures
