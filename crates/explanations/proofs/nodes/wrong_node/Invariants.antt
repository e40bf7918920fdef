use Rattle.std.proofs.Common.{◌≡◌, ◌+◌, ◌≤◌, length}
use Rattle.script_nodes.specs.Reading.{parts_left}
use Rattle.script_nodes.proofs.NodesRead.{left_length}
use Rattle.explanations.specs.Nodes.{parts_reason, syntax_reason}
use Rattle.explanations.proofs.nodes.wrong_node.Given as goal

abbrev pub invariant-loop-left : goal.invariant-loop-left
invariant-loop-left l = record {
  rest : syntax_reason l.fn.text ≡ parts_reason l.number (parts_left l.left);
  few : l.number + left_length l.left ≤ length l.fn.text + 2;
}

abbrev pub decreases-loop-left : goal.decreases-loop-left
decreases-loop-left l = left_length l.left
