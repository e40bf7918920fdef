-- The refusal of a request whose script has an error.
use Rattle.std.proofs.Common.{ℕ, List, Result, Err, ap, subst, sym}
use Rattle.script_nodes.specs.Faults.{RefusesText}
use Rattle.script_nodes.specs.Nodes.{script_of}
use Rattle.script_nodes.specs.declared.faults.ScriptFault.{ScriptFault}
use Rattle.script_nodes.specs.declared.faults.ScriptFault.TheVariants as faults
use Rattle.script_nodes.specs.declared.nodes.Node.{Node}
use Rattle.frame_session.specs.IsOrNoMemory.{IsOrNoMemory, MayRunOutOfMemory}
use Rattle.frame_session.specs.Scripts.{refusal_by_script, script_reported}

pub script_refused : (count sources : ℕ) (text : List ℕ) (fault : ScriptFault) → RefusesText sources text fault → IsOrNoMemory (script_reported count (script_of sources text)) (Err (refusal_by_script fault))
script_refused count sources text faults.Syntax why = ap (script_reported count) why
script_refused count sources text faults.Nodes why = ap (script_reported count) why
script_refused count sources text faults.Reference why = ap (script_reported count) why
script_refused count sources text faults.Number why = ap (script_reported count) why
script_refused count sources text faults.NoMemory why = subst (λ (script : Result (List Node) ScriptFault). MayRunOutOfMemory (script_reported count script)) (sym why.1) tt
