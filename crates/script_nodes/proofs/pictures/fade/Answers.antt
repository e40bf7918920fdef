use Rattle.script_nodes.specs.Shown.{shown_in, faded_to}
use Rattle.script_nodes.proofs.PlaneRows.{planes_shown}
use Rattle.script_nodes.proofs.pictures.fade.Goals as goal

pub returns : goal.returns
returns c =
    planes_shown c.share.result c.width.result c.height.result _ _ (faded_to c.args.weight (shown_in c.args.picture.now)).sample c.in_ok-faded_plane.field-0 c.in_ok-faded_plane-2.field-0 c.in_ok-faded_plane-3.field-0
    c.in_ok-faded_plane.ensures c.in_ok-faded_plane-2.ensures c.in_ok-faded_plane-3.ensures c.width.ensures.value c.height.ensures.value c.share.ensures
