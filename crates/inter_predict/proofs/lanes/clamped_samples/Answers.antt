use Rattle.std.proofs.Common.{arith}
use Rattle.std.proofs.lemmas.Simd.{shifts_fit_splat}
use Rattle.inter_predict.proofs.HeldLanes.{clamped_lane}
use Rattle.inter_predict.proofs.lanes.clamped_samples.Goals as goal

pub overflow_shr-result : goal.overflow_shr-result
overflow_shr-result g c = shifts_fit_splat 16 _ g.row.N 7 (omega arith)

pub returns : goal.returns
returns g c = λ lane less. clamped_lane g.row.N c.args.lanes lane c.fits-lanes.0 less
