use Rattle.intra_predict.proofs.HeldLanes.{clamped_sums}
use Rattle.intra_predict.proofs.lanes.clamped_sums.Goals as goal

pub returns : goal.returns
returns g c = clamped_sums c.args.first c.args.second c.fits-first.1
