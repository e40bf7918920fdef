use Rattle.inter_predict.proofs.SummedLanes.{thrice_lanes}
use Rattle.inter_predict.proofs.weights.thrice.Goals as goal

pub returns : goal.returns
returns g c = thrice_lanes g.row.N c.args.lanes c.fits-lanes.0
