use Rattle.script_nodes.proofs.NodesRead.{IsRead, left_length}
use Rattle.script_nodes.proofs.reading.check_text.Given as goal

abbrev pub invariant-loop-left : goal.invariant-loop-left
invariant-loop-left l = IsRead l.sources l.fn.text l.flags l.most.items l.left

abbrev pub decreases-loop-left : goal.decreases-loop-left
decreases-loop-left l = left_length l.left
