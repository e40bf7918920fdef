use Rattle.std.specs.Prelude.{sum}
use Rattle.std.proofs.Common.{◌≡◌, ◌+◌, ◌*◌, ◌<◌, ◌∙◌, ap, length, arith, w8}
use lib.Lanes.{chunk}
use Rattle.std.proofs.lemmas.List.{take_all}
use Rattle.std.proofs.lemmas.Simd.{chunk-fits, length-chunk}
use Rattle.intra_predict.proofs.HeldLanes.{summed, sum_bounded}
use Rattle.intra_predict.proofs.lanes.sum_of.Goals as goal

pub returns : goal.returns
returns g c =
    let samples = c.args.samples.now in
    let lanes = chunk 0 g.row.N samples in
    let long : length lanes ≡ g.row.N = length-chunk 0 g.row.N samples (omega arith) in
    let all : lanes ≡ samples = take_all g.row.N samples (omega arith) in
    let fits = chunk-fits w8 0 g.row.N samples c.type_inv.samples in
    let few : 0 + 256 * length lanes < 65536 = omega arith in
    let value = summed 0 lanes fits few in
    record { value = value ∙ ap sum all; bound = rw value (omega (arith, sum_bounded 0 lanes fits)) }
