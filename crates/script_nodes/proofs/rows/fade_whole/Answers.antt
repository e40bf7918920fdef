use Rattle.std.proofs.Common.{arith, rules}
use Rattle.script_nodes.proofs.FadedRows.{faded_more}
use Rattle.script_nodes.proofs.rows.fade_whole.Goals as goal

pub loop-k-preserved : goal.loop-k-preserved
loop-k-preserved c = faded_more _ _ _ _ _ c.loop-k.k 32 c.loop-k.invariant (search rules) (omega (arith, c.loop-k-test.true, c.loop-k.auto.out, c.requires.room)) c.faded_lanes.ensures
