use Rattle.script_nodes.proofs.SameShown.{same_planes}
use Rattle.script_nodes.proofs.laws.shown_samples_are_same.Goals as goal

pub returns : goal.returns
returns c = λ p q shown component wp wq sp sq. same_planes p q shown component wp wq sp sq
