use Rattle.std.proofs.Common.{◌≡◌, ◌*◌, ◌∙◌, length, refl}
use lib.Lanes.{chunk}
use Rattle.transforms.proofs.MovedRows.{moved, row_moved, row_room}
use Rattle.transforms.proofs.firsts.move_rows.Goals as goal

pub loop-row-preserved : goal.loop-row-preserved
loop-row-preserved g c =
    let line : c.clamped_rests-after.result ≡ moved c.args.more c.args.less (chunk (c.loop-row.row * c.args.stride) g.row.N c.loop-row.samples) = c.clamped_rests-after.ensures ∙ rw c.clamped_sums.ensures refl in
    rw line (row_moved c.args.more c.args.less g.row.N c.loop-row.row c.args.stride c.args.samples.now c.loop-row.samples c.loop-row.invariant c.fits-more.0 c.fits-less.0 c.requires.stride.0 (row_room c.args.stride c.loop-row.row g.row.N (length c.args.samples.now) c.loop-row-test.true c.requires.room))
