use Rattle.std.specs.Prelude.{slice_index}
use Rattle.std.proofs.Common.{refl, ◌≡◌, ℕ, ◌<◌, ◌∙◌, ap, map, length, arith}
use Rattle.std.proofs.lemmas.List.{length-map, get_or-map}
use Rattle.intra_predict.specs.InPlace.{start_of, above_among, left_among, corner_among}
use Rattle.intra_predict.specs.Means.{gradient}
use Rattle.intra_predict.specs.WholeSample.{above_at, left_at}
use Rattle.intra_predict.proofs.HeldLanes.{moved_row}
use Rattle.intra_predict.proofs.InPlace.{none_from, row_from, left_same}
use Rattle.intra_predict.proofs.Rows.{upper_row}
use Rattle.intra_predict.proofs.in_place.fill_by_gradients.Goals as goal

pub loop-row-init : goal.loop-row-init
loop-row-init g c =
    none_from (λ column row. gradient (left_at (left_among c.args.samples.now c.args.corner g.row.N) row) (above_at (above_among c.args.samples.now c.args.corner g.row.N) column) (corner_among c.args.samples.now c.args.corner)) (start_of c.args.corner) g.row.N c.args.corner.across c.args.samples.now

pub loop-row-preserved : goal.loop-row-preserved
loop-row-preserved g c =
    let sample : ℕ → ℕ → ℕ = λ column row. gradient (left_at (left_among c.args.samples.now c.args.corner g.row.N) row) (above_at (above_among c.args.samples.now c.args.corner g.row.N) column) (corner_among c.args.samples.now c.args.corner) in
    let above = c.row_above-above.result in
    let left = c.sample_left-left.result in
    let diagonal = c.sample_diagonal-diagonal.result in
    let left_is = c.sample_left-left.ensures g.row.N c.loop-row-test.true ∙ left_same sample c.args.corner g.row.N g.row.N c.loop-row.row c.args.samples.now c.loop-row.samples c.loop-row.invariant c.requires.block.2 c.loop-row-test.true in
    let long : length above ≡ g.row.N = c.row_above-above.ensures.whole in
    let small : left < 256 = omega (arith, c.sample_left-left.type_inv) in
    let line : c.clamped_rests-line.result ≡ map (λ a. gradient left a diagonal) above =
    c.clamped_rests-line.ensures ∙ rw (c.clamped_sums.ensures, c.clamped_rests-more.ensures, c.clamped_rests-less.ensures, ← long) (moved_row left diagonal above small) in
    rw c.store.ensures.value
    (row_from sample (start_of c.args.corner) g.row.N c.loop-row.row c.args.corner.across c.args.samples.now c.loop-row.samples c.clamped_rests-line.result c.loop-row.invariant (omega (arith, c.requires.block.2)) (omega (arith, upper_row c.args.corner.across c.loop-row.row g.row.N c.loop-row-test.true, c.requires.block.3))
    (ap length line ∙ length-map above _ ∙ long)
    (λ column inside.
    ap (λ l. slice_index l column) line ∙ get_or-map (λ a. gradient left a diagonal) above column 0 0 (omega arith)
    ∙ rw (left_is, c.row_above-above.ensures.samples column inside, c.sample_diagonal-diagonal.ensures) refl))
