use Rattle.std.specs.Prelude.{slice_index}
use Rattle.std.proofs.Common.{◌+◌, ◌-◌, ◌*◌, sym, arith}
use Rattle.std.proofs.lemmas.List.FromFn.{sum_by-map-range_with_len_more}
use Rattle.intra_predict.specs.InPlace.{start_of}
use Rattle.intra_predict.proofs.in_place.sum_left.Goals as goal

pub loop-row-preserved : goal.loop-row-preserved
loop-row-preserved g c =
    let more = sum_by-map-range_with_len_more (λ x. x) (λ row. slice_index c.args.samples.now (start_of c.args.corner + row * c.args.corner.across - 1)) 0 c.loop-row.row c.loop-row.row (omega arith) in
    (rw (c.from-sum.ensures, c.loop-row.invariant.0) (sym more), omega (arith, c.loop-row.invariant.1, c.from-sum.ensures, c.type_inv.samples (start_of c.args.corner + c.loop-row.row * c.args.corner.across - 1)))
