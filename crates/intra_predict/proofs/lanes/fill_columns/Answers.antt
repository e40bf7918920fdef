use Rattle.std.proofs.Common.{arith}
use Rattle.std.specs.Prelude.{slice_index, replicate}
use Rattle.std.proofs.lemmas.List.{get_or-replicate, length-replicate}
use Rattle.intra_predict.proofs.Rows.{row_put, upper_row}
use Rattle.intra_predict.proofs.lanes.fill_columns.Goals as goal

pub loop-row-preserved : goal.loop-row-preserved
loop-row-preserved g c =
    let sample = slice_index c.args.left c.loop-row.row in
    row_put (λ column row. slice_index c.args.left row) g.row.N c.loop-row.row c.args.stride c.args.out.now c.loop-row.out (replicate g.row.N sample) c.loop-row.invariant c.requires.stride.0 (omega (arith, upper_row c.args.stride c.loop-row.row g.row.N c.loop-row-test.true, c.requires.room)) (length-replicate g.row.N sample)
    (λ column inside. get_or-replicate g.row.N column sample 0 inside)
