-- Scripts of a session.
use Rattle.std.specs.Prelude.{ℕ, List, Result, Ok, Err}
use Rattle.script_nodes.specs.declared.faults.ApplyFault.{ApplyFault}
use Rattle.script_nodes.specs.declared.faults.ApplyFault.TheVariants as applies
use Rattle.script_nodes.specs.declared.faults.ScriptFault.{ScriptFault}
use Rattle.script_nodes.specs.declared.faults.ScriptFault.TheVariants as faults
use Rattle.script_nodes.specs.declared.nodes.Node.{Node}
use Rattle.frame_session.specs.declared.refusal.Refusal.{Refusal}
use Rattle.frame_session.specs.declared.refusal.Refusal.TheVariants as refusals

-- the refusal of a request whose script has an error
abbrev pub refusal_by_script : ScriptFault → Refusal
refusal_by_script faults.Syntax = refusals.Syntax
refusal_by_script faults.Nodes = refusals.Nodes
refusal_by_script faults.Reference = refusals.Reference
refusal_by_script faults.Number = refusals.Number
refusal_by_script faults.NoMemory = refusals.NoMemory

-- the refusal of a frame of which a script makes no picture
abbrev pub refusal_by_apply : ApplyFault → Refusal
refusal_by_apply applies.CropOutside = refusals.CropOutside
refusal_by_apply applies.NoMemory = refusals.NoMemory

-- the result of a script, when there are this many packets
abbrev pub script_reported : ℕ → Result (List Node) ScriptFault → Result ℕ Refusal
script_reported count (Ok nodes) = Ok count
script_reported count (Err fault) = Err (refusal_by_script fault)
