use Rattle.std.proofs.Common.{◌≡◌, ◌==◌}
use Rattle.std.specs.List.{slice_split}
use Rattle.script_nodes.specs.Nodes.{nodes_by_parts}
use Rattle.script_nodes.specs.Reading.{parts_left}
use Rattle.script_nodes.proofs.NodesRead.{left_length, nodes_behind}
use Rattle.script_nodes.proofs.reading.read_parts.Given as goal

abbrev pub invariant-loop-left : goal.invariant-loop-left
invariant-loop-left l = nodes_by_parts (slice_split (λ b. b == 59) l.fn.text) ≡ nodes_behind l.nodes.items (nodes_by_parts (parts_left l.left))

abbrev pub decreases-loop-left : goal.decreases-loop-left
decreases-loop-left l = left_length l.left
