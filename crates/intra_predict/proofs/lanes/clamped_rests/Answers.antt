use Rattle.intra_predict.proofs.HeldLanes.{clamped_rests}
use Rattle.intra_predict.proofs.lanes.clamped_rests.Goals as goal

pub returns : goal.returns
returns g c = clamped_rests c.args.first c.args.second c.fits-first.1 c.fits-second.1
