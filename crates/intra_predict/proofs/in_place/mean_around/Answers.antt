use Rattle.std.proofs.Common.{sym, ◌∙◌, ◌+◌, ◌-◌, ◌*◌, arith}
use Rattle.std.specs.Prelude.{slice_index}
use Rattle.std.proofs.lemmas.List.FromFn.{length-map-range_with_len}
use Rattle.intra_predict.specs.InPlace.{start_of}
use Rattle.intra_predict.proofs.MeanLemmas.{mean_of-none, mean_of-some, mean_of-first, mean_of-both}
use Rattle.intra_predict.proofs.InPlace.{above_none, above_some, left_none, left_some, range_length}
use Rattle.intra_predict.proofs.in_place.mean_around.Goals as goal

pub returns-in-true-true : goal.returns-in-true-true
returns-in-true-true g c = rw (above_none c.args.samples.now c.args.corner g.row.N c.in-true-true.is-0, left_none c.args.samples.now c.args.corner g.row.N c.in-true-true.is-1) (sym mean_of-none)

pub returns-in-false-true : goal.returns-in-false-true
returns-in-false-true g c =
    let long = range_length c.args.samples.now (start_of c.args.corner - c.args.corner.across) g.row.N (omega (arith, c.requires.block.3)) in
    rw (above_some c.args.samples.now c.args.corner g.row.N c.in-false-true.is-0, left_none c.args.samples.now c.args.corner g.row.N c.in-false-true.is-1)
    (c.mean_of_sum-in-false-true.ensures ∙ rw c.sum_above.ensures.value (sym (mean_of-first g.row.N _ long c.requires.lanes.0)))

pub returns-in-true-false : goal.returns-in-true-false
returns-in-true-false g c =
    let long = length-map-range_with_len (λ row. slice_index c.args.samples.now (start_of c.args.corner + row * c.args.corner.across - 1)) 0 g.row.N in
    rw (above_none c.args.samples.now c.args.corner g.row.N c.in-true-false.is-0, left_some c.args.samples.now c.args.corner g.row.N c.in-true-false.is-1)
    (c.mean_of_sum.ensures ∙ rw c.sum_left.ensures.value (sym (mean_of-some g.row.N _ long c.requires.lanes.0)))

pub returns-in-false-false : goal.returns-in-false-false
returns-in-false-false g c =
    let above = range_length c.args.samples.now (start_of c.args.corner - c.args.corner.across) g.row.N (omega (arith, c.requires.block.3)) in
    let left = length-map-range_with_len (λ row. slice_index c.args.samples.now (start_of c.args.corner + row * c.args.corner.across - 1)) 0 g.row.N in
    rw (above_some c.args.samples.now c.args.corner g.row.N c.in-false-false.is-0, left_some c.args.samples.now c.args.corner g.row.N c.in-false-false.is-1)
    (c.mean_of_sum-in-false-false.ensures ∙ rw (c.sum_above-above.ensures.value, c.sum_left-left.ensures.value) (sym (mean_of-both g.row.N _ _ above left c.requires.lanes.0)))
