-- The errors of edits, and answers that may be out of memory.
use Rattle.std.specs.Prelude.{◌≡◌, ℕ, List, codes, Option, Some, None, Result, Ok, Err}
use Rattle.packet_edits.specs.declared.fault.EditFault.{EditFault}
use Rattle.packet_edits.specs.declared.fault.EditFault.TheVariants.{Place, Full, Spent, NoBit, NoMemory}

-- the name of an error
abbrev pub edit_fault_word : EditFault → List ℕ
edit_fault_word Place = codes "Place"
edit_fault_word Full = codes "Full"
edit_fault_word Spent = codes "Spent"
edit_fault_word NoBit = codes "NoBit"
edit_fault_word NoMemory = codes "NoMemory"

-- the answer to an edit that allocates nothing: its first error, if there is one
abbrev pub unless_refused : Option EditFault → Result (Unit {0}) EditFault
unless_refused None = Ok tt
unless_refused (Some fault) = Err fault

-- the answer to an edit that allocates: its first error, if there is one; else it may be out of memory
abbrev pub IsFirstOrNoMemory : Option EditFault → Result (Unit {0}) EditFault → Type 0
IsFirstOrNoMemory first (Ok done) = first ≡ None
IsFirstOrNoMemory first (Err NoMemory) = first ≡ None
IsFirstOrNoMemory first (Err Place) = first ≡ Some Place
IsFirstOrNoMemory first (Err Full) = first ≡ Some Full
IsFirstOrNoMemory first (Err Spent) = first ≡ Some Spent
IsFirstOrNoMemory first (Err NoBit) = first ≡ Some NoBit
