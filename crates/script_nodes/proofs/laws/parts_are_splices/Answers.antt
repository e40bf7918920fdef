use Rattle.script_nodes.proofs.Splices.{are_splices}
use Rattle.script_nodes.proofs.laws.parts_are_splices.Goals as goal

pub returns : goal.returns
returns c = are_splices
