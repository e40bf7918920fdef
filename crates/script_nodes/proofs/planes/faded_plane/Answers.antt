use Rattle.std.proofs.Common.{◌<◌, ap, ◌∙◌, arith}
use Rattle.pixel_planes.specs.Pictures.{side_of}
use Rattle.script_nodes.proofs.PlaneRows.{rows_more, row_faded}
use Rattle.script_nodes.proofs.planes.faded_plane.Goals as goal

pub loop-y-preserved : goal.loop-y-preserved
loop-y-preserved c =
    let below : c.loop-y.y < side_of c.args.component c.args.picture.now.height = omega (arith, c.loop-y-test.true, c.side_of-y-end.ensures ∙ ap (side_of c.args.component) (c.from-height.ensures ∙ c.height.ensures.value)) in
    rows_more c.args.component c.args.picture.now.width c.args.picture.now.height _ c.loop-y.plane c.loop-y.y c.fade_row.new.out c.loop-y.invariant below (c.fade_row.ensures.len ∙ c.row_mut.ensures.len)
    (row_faded c.args.picture.now c.args.component c.args.weight c.black-dark.result c.loop-y.y c.shown_row-row.result.now c.fade_row.new.out c.width.ensures.whole c.black-dark.ensures c.shown_row-row.ensures.value c.shown_row-row.ensures.len c.fade_row.ensures.faded)
