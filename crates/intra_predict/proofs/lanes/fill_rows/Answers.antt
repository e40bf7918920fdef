use Rattle.std.proofs.Common.{refl, arith}
use Rattle.std.specs.Prelude.{slice_index}
use Rattle.intra_predict.proofs.Rows.{row_put, upper_row}
use Rattle.intra_predict.proofs.lanes.fill_rows.Goals as goal

pub loop-row-preserved : goal.loop-row-preserved
loop-row-preserved g c =
    row_put (λ column row. slice_index c.args.line column) g.row.N c.loop-row.row c.args.stride c.args.out.now c.loop-row.out c.args.line c.loop-row.invariant c.requires.stride.0 (omega (arith, upper_row c.args.stride c.loop-row.row g.row.N c.loop-row-test.true, c.requires.room)) c.fits-line.0 (λ column inside. refl)
