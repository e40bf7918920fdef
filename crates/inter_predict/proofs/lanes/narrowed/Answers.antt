use Rattle.std.proofs.Common.{Fits, w8, arith}
use Rattle.std.proofs.lemmas.Simd.{Each1-from_get_or}
use Rattle.inter_predict.proofs.HeldLanes.{as_they_are}
use Rattle.inter_predict.proofs.lanes.narrowed.Goals as goal

pub overflow_cast-result : goal.overflow_cast-result
overflow_cast-result g c = Each1-from_get_or (Fits w8) c.args.samples 0 (λ lane less. record { fits = c.requires lane (omega (arith, c.fits-samples.0)) })

pub returns : goal.returns
returns g c = as_they_are c.args.samples
