use Rattle.std.specs.Prelude.{slice_index}
use Rattle.std.proofs.Common.{◌≡◌, ◌∙◌, ap, map, length, arith, w8, Fits}
use Rattle.std.proofs.lemmas.List.{length-map, get_or-map}
use Rattle.intra_predict.specs.Means.{gradient}
use Rattle.intra_predict.proofs.HeldLanes.{moved_row}
use Rattle.std.proofs.lemmas.Simd.{Each1-get_or}
use Rattle.intra_predict.proofs.Rows.{row_put, upper_row}
use Rattle.intra_predict.proofs.lanes.fill_gradients.Goals as goal

pub loop-row-preserved : goal.loop-row-preserved
loop-row-preserved g c =
    let left = slice_index c.args.left c.loop-row.row in
    let line : c.clamped_rests-moved.result ≡ map (λ a. gradient left a c.args.corner) c.args.above =
    c.clamped_rests-moved.ensures ∙ rw (c.clamped_sums.ensures, c.clamped_rests-more.ensures, c.clamped_rests-less.ensures, ← c.fits-above.0) (moved_row left c.args.corner c.args.above (Each1-get_or (Fits w8) c.args.left c.loop-row.row 0 (omega arith) c.fits-left.1).fits) in
    row_put (λ column row. gradient (slice_index c.args.left row) (slice_index c.args.above column) c.args.corner) g.row.N c.loop-row.row c.args.stride c.args.out.now c.loop-row.out c.clamped_rests-moved.result c.loop-row.invariant c.requires.stride.0 (omega (arith, upper_row c.args.stride c.loop-row.row g.row.N c.loop-row-test.true, c.requires.room))
    (ap length line ∙ length-map c.args.above _ ∙ c.fits-above.0)
    (λ column inside. ap (λ l. slice_index l column) line ∙ get_or-map (λ a. gradient left a c.args.corner) c.args.above column 0 0 (omega arith))
