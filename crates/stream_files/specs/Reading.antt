-- Reading up to a limit. `Option (List ℕ)` is the bytes that a reader has left, if they are known.
use Rattle.std.specs.Prelude.{ℕ, ◌<◌, ◌≤◌, List, length, codes, Option, IfSome}
use Rattle.std.specs.Io.KnownBytes.{Consumes}
use Rattle.stream_files.specs.declared.reading.ReadFault.{ReadFault}
use Rattle.stream_files.specs.declared.reading.ReadFault.TheVariants.{Read, TooLong, NoMemory}

-- the error's name
abbrev pub read_fault_word : ReadFault → List ℕ
read_fault_word Read = codes "Read"
read_fault_word TooLong = codes "TooLong"
read_fault_word NoMemory = codes "NoMemory"

-- a reader lost bytes from its front, at most this many
pub record TakesAtMost (most : ℕ) (old new : Option (List ℕ)) : Type 0 where
  pub bytes : List ℕ
  pub taken : Consumes old new bytes
  pub few : length bytes ≤ most

-- what an error means for a reader that may have at most `limit` bytes
abbrev pub FaultMeans : ℕ → Option (List ℕ) → ReadFault → Type 0
FaultMeans limit old Read = Unit {0}
FaultMeans limit old TooLong = IfSome old (λ left. limit < length left)
FaultMeans limit old NoMemory = Unit {0}
