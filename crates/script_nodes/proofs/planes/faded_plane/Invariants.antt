use Rattle.script_nodes.specs.Shown.{faded_to, shown_in}
use Rattle.script_nodes.specs.Planes.{HasRows}
use Rattle.script_nodes.proofs.planes.faded_plane.Given as goal

abbrev pub invariant-loop-y : goal.invariant-loop-y
invariant-loop-y l = HasRows l.component l.picture.width l.picture.height ((faded_to l.weight (shown_in l.picture)).sample l.component) l.y l.plane
