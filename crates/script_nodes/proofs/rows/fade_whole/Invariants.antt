use Rattle.std.proofs.Common.{◌*◌}
use Rattle.script_nodes.specs.Rows.{IsFadedTo}
use Rattle.script_nodes.proofs.rows.fade_whole.Given as goal

abbrev pub invariant-loop-k : goal.invariant-loop-k
invariant-loop-k l = IsFadedTo l.weight l.dark l.row (l.k * 32) l.out
