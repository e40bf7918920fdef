use Rattle.std.specs.Prelude.{slice_index}
use Rattle.std.proofs.Common.{◌≤◌, ◌+◌, ◌*◌, length, arith}
use Rattle.std.proofs.lemmas.Simd.{length-chunk, get_or-chunk}
use lib.Lanes.{chunk}
use Rattle.inter_predict.proofs.StripRows.{row_put, upper_row}
use Rattle.inter_predict.proofs.strips.copy.Goals as goal

pub loop-row-preserved : goal.loop-row-preserved
loop-row-preserved g c =
    let row = c.loop-row.row in
    let samples = c.args.rows.samples.now in
    let room : row * c.args.strip.stride + (c.args.strip.first + g.row.N) ≤ length c.args.out.now = omega (arith, upper_row c.args.strip.stride row c.args.strip.height c.loop-row-test.true) in
    let there : c.args.rows.start + row * c.args.rows.stride + g.row.N ≤ length samples = omega (arith, upper_row c.args.rows.stride row c.args.strip.height c.loop-row-test.true) in
    row_put (λ column row. slice_index samples (c.args.rows.start + row * c.args.rows.stride + column)) c.args.strip.first g.row.N row c.args.strip.stride c.args.out.now c.loop-row.out (chunk (c.args.rows.start + row * c.args.rows.stride) g.row.N samples) c.loop-row.invariant c.requires.inside room
    (length-chunk (c.args.rows.start + row * c.args.rows.stride) g.row.N samples there)
    (λ column inside. get_or-chunk (c.args.rows.start + row * c.args.rows.stride) g.row.N samples column 0 inside)
