use Rattle.script_nodes.specs.Shown.{use_step}
use Rattle.script_nodes.proofs.Followed.{trace_followed}
use Rattle.script_nodes.proofs.laws.traces_are_followed.Goals as goal

pub returns : goal.returns
returns c = λ counts nodes i sources. trace_followed use_step sources counts nodes i
