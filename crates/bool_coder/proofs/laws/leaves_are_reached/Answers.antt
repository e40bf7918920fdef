use Rattle.bool_coder.proofs.Leaves.{leaf-reached}
use Rattle.bool_coder.proofs.laws.leaves_are_reached.Goals as goal

pub returns : goal.returns
returns c = leaf-reached c.args.tree.now c.args.probs.now c.requires
