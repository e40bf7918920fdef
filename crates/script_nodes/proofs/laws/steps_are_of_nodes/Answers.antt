use Rattle.script_nodes.proofs.NodeSteps.{of_nodes}
use Rattle.script_nodes.proofs.laws.steps_are_of_nodes.Goals as goal

pub returns : goal.returns
returns c = of_nodes
