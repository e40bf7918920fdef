use Rattle.std.proofs.Common.{refl}
use Rattle.script_nodes.specs.Shown.{shown_in, cut_to}
use Rattle.script_nodes.proofs.PlaneRows.{planes_shown}
use Rattle.script_nodes.proofs.pictures.cut.Goals as goal

pub returns : goal.returns
returns c =
    planes_shown c.share.result _ _ _ _ (cut_to c.args.area.now (shown_in c.args.picture.now)).sample c.in_ok-cut_plane.field-0 c.in_ok-cut_plane-2.field-0 c.in_ok-cut_plane-3.field-0
    c.in_ok-cut_plane.ensures c.in_ok-cut_plane-2.ensures c.in_ok-cut_plane-3.ensures refl refl c.share.ensures
