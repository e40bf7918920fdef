-- The errors of a change of the show bit.
use Rattle.std.specs.Prelude.{◌≡◌, ℕ, true, false, List, codes}
use Rattle.frame_header.specs.ShowBits.{has_show_bit}
use Rattle.frame_header.specs.declared.show_fault.ShowFault.{ShowFault}
use Rattle.frame_header.specs.declared.show_fault.ShowFault.TheVariants.{NoBit, NoMemory}

-- the name of an error
abbrev pub show_fault_word : ShowFault → List ℕ
show_fault_word NoBit = codes "NoBit"
show_fault_word NoMemory = codes "NoMemory"

-- a packet with no show bit is refused with NoBit, and only such a packet
abbrev pub ShowRefuses : List ℕ → ShowFault → Type 0
ShowRefuses packet NoBit = has_show_bit packet ≡ false
ShowRefuses packet NoMemory = has_show_bit packet ≡ true
