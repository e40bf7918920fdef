use Rattle.std.proofs.Common.{arith}
use Rattle.std.proofs.lemmas.Simd.{shifts_fit_splat}
use Rattle.inter_predict.proofs.SummedLanes.{shifted_lanes}
use Rattle.inter_predict.proofs.weights.up.Goals as goal

pub overflow_shl-result : goal.overflow_shl-result
overflow_shl-result g c = shifts_fit_splat 16 _ g.row.N c.args.count (omega (arith, c.requires))

pub returns : goal.returns
returns g c = shifted_lanes g.row.N c.args.lanes c.args.count c.fits-lanes.0
