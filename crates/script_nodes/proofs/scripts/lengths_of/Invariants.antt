use Rattle.script_nodes.proofs.Counts.{AreCounted}
use Rattle.script_nodes.proofs.scripts.lengths_of.Given as goal

abbrev pub invariant-loop-node : goal.invariant-loop-node
invariant-loop-node l = AreCounted l.counts l.nodes l.found.items l.node-index
