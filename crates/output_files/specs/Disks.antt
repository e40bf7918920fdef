-- The file and the new file next to it, after calls of a save.
use Rattle.std.specs.Prelude.{◌≡◌, ◌⊎◌, ℕ, List, [], ◌∷◌, Option, Some, None, take}
use Rattle.output_files.specs.Steps.{Step}
use Rattle.output_files.specs.Steps.Step.{Made, Synced, Renamed, Removed, Failed}

-- the bytes of both, if they are there. Of a new file that is not on the disk nothing is known, and this has no bytes for it
pub record Disk : Type 0 where
  pub file : Option (List ℕ)
  pub fresh : Option (List ℕ)

-- both after a call
abbrev pub after : Disk → Step → Disk
after disk Made = record { file = disk.file; fresh = Some [] }
after disk (Synced bytes) = record { file = disk.file; fresh = bytes }
after disk Renamed = record { file = disk.fresh; fresh = None }
after disk Removed = record { file = disk.file; fresh = None }
after disk (Failed call kind) = disk

-- both after calls, the first one first
abbrev pub after_all : Disk → List Step → Disk
after_all disk [] = disk
after_all disk (step ∷ steps) = after_all (after disk step) steps

-- at each moment of these calls the file is the old one, or the whole text
abbrev pub IsNeverLost : Disk → List ℕ → List Step → Type 0
IsNeverLost disk text steps = (n : ℕ) → ((after_all disk (take n steps)).file ≡ disk.file) ⊎ ((after_all disk (take n steps)).file ≡ Some text)
