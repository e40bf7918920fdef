use Rattle.std.proofs.Common.{◌≡◌, ◌≤◌, ◌++◌, drop, length}
use Rattle.script_nodes.specs.NodeSteps.{changed_nodes}
use Rattle.script_nodes.proofs.origins.changed_nodes.Given as goal

abbrev pub invariant-loop-made : goal.invariant-loop-made
invariant-loop-made l = record {
  whole : l.changed.items ++ changed_nodes l.size (drop l.made-index l.steps) ≡ changed_nodes (l.width, l.height) l.steps;
  few : length l.changed.items ≤ l.made-index;
}
