use Rattle.script_nodes.specs.Shown.{cut_to, shown_in}
use Rattle.script_nodes.specs.Planes.{HasRows}
use Rattle.script_nodes.proofs.planes.cut_plane.Given as goal

abbrev pub invariant-loop-y : goal.invariant-loop-y
invariant-loop-y l = HasRows l.component l.area.width l.area.height ((cut_to l.area (shown_in l.picture)).sample l.component) l.y l.plane
