-- The errors of a script's text and of its use.
use Rattle.std.specs.Prelude.{◌≡◌, ℕ, List, codes, Ok, Err}
use Rattle.script_nodes.specs.declared.faults.ScriptFault.{ScriptFault}
use Rattle.script_nodes.specs.declared.faults.ScriptFault.TheVariants.{Syntax, Nodes, Reference, Number, NoMemory}
use Rattle.script_nodes.specs.declared.faults.ApplyFault.{ApplyFault}
use Rattle.script_nodes.specs.declared.nodes.Node.{Node}
use Rattle.script_nodes.specs.Nodes.{script_of}

-- the error's name
abbrev pub script_fault_word : ScriptFault → List ℕ
script_fault_word Syntax = codes "Syntax"
script_fault_word Nodes = codes "Nodes"
script_fault_word Reference = codes "Reference"
script_fault_word Number = codes "Number"
script_fault_word NoMemory = codes "NoMemory"

-- the error's name
abbrev pub apply_fault_word : ApplyFault → List ℕ
apply_fault_word ApplyFault.CropOutside = codes "CropOutside"
apply_fault_word ApplyFault.NoMemory = codes "NoMemory"

-- what each error means for a text over this many sources: it is the first one; NoMemory comes only if there is none
abbrev pub RefusesText : ℕ → List ℕ → ScriptFault → Type 0
RefusesText sources text Syntax = script_of sources text ≡ Err Syntax
RefusesText sources text Nodes = script_of sources text ≡ Err Nodes
RefusesText sources text Reference = script_of sources text ≡ Err Reference
RefusesText sources text Number = script_of sources text ≡ Err Number
RefusesText sources text NoMemory = (nodes : List Node) × (script_of sources text ≡ Ok nodes)
