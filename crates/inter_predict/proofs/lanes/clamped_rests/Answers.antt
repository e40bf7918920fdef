use Rattle.inter_predict.proofs.HeldLanes.{clamped_rests}
use Rattle.inter_predict.proofs.lanes.clamped_rests.Goals as goal

pub returns : goal.returns
returns g c = clamped_rests c.args.added c.args.taken c.fits-added.1 c.fits-taken.1
