use Rattle.std.proofs.Common.{length, ◌-◌}
use Rattle.bool_coder.proofs.Leaves.{StandsAt}
use Rattle.bool_coder.proofs.decoder.Decoder.tree.Given as goal

abbrev pub invariant-loop-node : goal.invariant-loop-node
invariant-loop-node l = StandsAt l.tree l.probs l.fn.self l.self l.node

abbrev pub decreases-loop-node : goal.decreases-loop-node
decreases-loop-node l = length l.tree - l.node
