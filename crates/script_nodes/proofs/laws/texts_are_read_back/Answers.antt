use Rattle.script_nodes.proofs.ReadBack.{read_back}
use Rattle.script_nodes.proofs.laws.texts_are_read_back.Goals as goal

pub returns : goal.returns
returns c = read_back
