use Rattle.script_nodes.specs.Rows.{IsFadedTo}
use Rattle.script_nodes.proofs.rows.fade_rest.Given as goal

abbrev pub invariant-loop-x : goal.invariant-loop-x
invariant-loop-x l = IsFadedTo l.weight l.dark l.row l.x l.out
