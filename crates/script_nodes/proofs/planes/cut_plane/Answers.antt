use Rattle.std.proofs.Common.{◌<◌, ◌∙◌, arith}
use Rattle.pixel_planes.specs.Pictures.{side_of}
use Rattle.script_nodes.proofs.PlaneRows.{rows_more, row_cut}
use Rattle.script_nodes.proofs.planes.cut_plane.Goals as goal

pub loop-y-preserved : goal.loop-y-preserved
loop-y-preserved c =
    let below : c.loop-y.y < side_of c.args.component c.args.area.now.height = omega (arith, c.loop-y-test.true, c.side_of-y-end.ensures) in
    rows_more c.args.component c.args.area.now.width c.args.area.now.height _ c.loop-y.plane c.loop-y.y c.copy_row.new.out c.loop-y.invariant below (c.copy_row.ensures.len ∙ c.row_mut.ensures.len)
    (row_cut c.args.picture.now c.args.component c.args.area.now c.position_in-left.result c.position_in-top.result c.loop-y.y c.shown_row.result.now c.copy_row.new.out c.prove_whole.ensures c.requires.inside c.position_in-left.ensures c.position_in-top.ensures c.shown_row.ensures.value
    (λ x less. c.copy_row.ensures.copied x (omega (arith, c.side_of-width.ensures))))
