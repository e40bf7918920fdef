-- The errors of forging.
use Rattle.std.specs.Prelude.{◌≡◌, ℕ, ◌<◌, List, codes, Result, Err}
use Rattle.packet_forge.specs.declared.faults.ForgeFault.{ForgeFault}
use Rattle.packet_forge.specs.declared.faults.ForgeFault.TheVariants.{Size, TooLarge, NoMemory}

-- the error's name
abbrev pub forge_fault_word : ForgeFault → List ℕ
forge_fault_word Size = codes "Size"
forge_fault_word TooLarge = codes "TooLarge"
forge_fault_word NoMemory = codes "NoMemory"

-- what each error means for the packet to be forged: it is the first one; NoMemory may be reported instead of all but Size
abbrev pub ForgeRefuses : Result (List ℕ) ForgeFault → ForgeFault → Type 0
ForgeRefuses want Size = want ≡ Err Size
ForgeRefuses want TooLarge = want ≡ Err TooLarge
ForgeRefuses want NoMemory = want ≡ Err Size → ⊥

-- what each error means for a first partition of this many bytes
abbrev pub PartitionRefuses : ℕ → ForgeFault → Type 0
PartitionRefuses size Size = ⊥
PartitionRefuses size TooLarge = 524287 < size
PartitionRefuses size NoMemory = Unit {0}
