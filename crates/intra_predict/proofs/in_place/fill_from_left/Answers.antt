use Rattle.std.specs.Prelude.{replicate}
use Rattle.std.proofs.Common.{ℕ, ◌∙◌, arith}
use Rattle.std.proofs.lemmas.List.{get_or-replicate, length-replicate}
use Rattle.intra_predict.specs.InPlace.{start_of, left_among}
use Rattle.intra_predict.specs.WholeSample.{left_at}
use Rattle.intra_predict.proofs.InPlace.{none_from, row_from, left_same}
use Rattle.intra_predict.proofs.Rows.{upper_row}
use Rattle.intra_predict.proofs.in_place.fill_from_left.Goals as goal

pub loop-row-init : goal.loop-row-init
loop-row-init g c = none_from (λ column row. left_at (left_among c.args.samples.now c.args.corner g.row.N) row) (start_of c.args.corner) g.row.N c.args.corner.across c.args.samples.now

pub loop-row-preserved : goal.loop-row-preserved
loop-row-preserved g c =
    let sample : ℕ → ℕ → ℕ = λ column row. left_at (left_among c.args.samples.now c.args.corner g.row.N) row in
    let left = c.sample_left-left.ensures g.row.N c.loop-row-test.true ∙ left_same sample c.args.corner g.row.N g.row.N c.loop-row.row c.args.samples.now c.loop-row.samples c.loop-row.invariant c.requires.block.2 c.loop-row-test.true in
    rw c.store.ensures.value
    (row_from sample (start_of c.args.corner) g.row.N c.loop-row.row c.args.corner.across c.args.samples.now c.loop-row.samples (replicate g.row.N c.sample_left-left.result) c.loop-row.invariant (omega (arith, c.requires.block.2)) (omega (arith, upper_row c.args.corner.across c.loop-row.row g.row.N c.loop-row-test.true, c.requires.block.3))
    (length-replicate g.row.N c.sample_left-left.result)
    (λ column inside. get_or-replicate g.row.N column c.sample_left-left.result 0 inside ∙ left))
