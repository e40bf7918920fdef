use Rattle.std.proofs.Common.{◌≡◌, ◌+◌, ◌*◌, ◌/◌, length, arith}
use Rattle.intra_predict.specs.WholeSample.{side_of}
use Rattle.reference_frames.proofs.AddedRows.{no_row, rows_inside, row_more, all_added}
use Rattle.reference_frames.proofs.Squares.{rows_room}
use Rattle.reference_frames.proofs.residuals.add_blocks.Goals as goal

pub add_row-requires-clause-blocks : goal.add_row-requires-clause-blocks
add_row-requires-clause-blocks c =
    let few = rw c.side-count.ensures at c.loop-n-test.true in
    let inside = rows_inside c.args.size c.loop-n.n few in
    rw c.side-count.ensures (omega (arith, inside.1, c.requires.first))

pub add_row-requires-clause-small : goal.add_row-requires-clause-small
add_row-requires-clause-small c =
    let few = rw c.side-count.ensures at c.loop-n-test.true in
    let inside = rows_inside c.args.size c.loop-n.n few in
    (c.requires.small.0, omega (arith, inside.0, c.requires.small.1))

pub add_row-requires-clause-room : goal.add_row-requires-clause-room
add_row-requires-clause-room c =
    let few = rw c.side-count.ensures at c.loop-n-test.true in
    let inside = rows_inside c.args.size c.loop-n.n few in
    let rows = rows_room (c.args.corner.row + 4 * c.loop-n.n + 4) (c.args.corner.row + side_of c.args.size) c.args.corner.across (length c.args.samples.now) (omega (arith, inside.0)) c.requires.room in
    omega (arith, rows, c.loop-n.invariant.whole)

pub loop-n-init : goal.loop-n-init
loop-n-init c = no_row (side_of c.args.size) c.args.first c.args.blocks.now c.args.corner.across c.args.corner.column c.args.corner.row c.args.samples.now

pub loop-n-preserved : goal.loop-n-preserved
loop-n-preserved c =
    let is = rw c.side-count.ensures at c.add_row.ensures in
    let few = rw c.side-count.ensures at c.loop-n-test.true in
    row_more c.args.size c.args.first c.args.blocks.now c.args.corner.across c.args.corner.column c.args.corner.row c.loop-n.n c.args.samples.now c.loop-n.samples c.add_row.new.samples c.requires.column few c.loop-n.invariant is

pub returns : goal.returns
returns c =
    let end : c.loop-n.n ≡ c.side-count.result / 4 = omega (arith, c.loop-n.auto.n-end, c.loop-n-test.false) in
    let all = rw c.side-count.ensures at end in
    all_added c.args.size c.args.first c.args.blocks.now c.args.corner.across c.args.corner.column c.args.corner.row c.loop-n.n c.args.samples.now c.loop-n.samples c.loop-n.invariant all
