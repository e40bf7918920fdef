-- What the program writes when it checks the bytes of a file.
use Rattle.std.specs.Prelude.{◌≡◌, ◌==◌, ◌&&◌, ◌||◌, ℕ, Bool, not, List, Option, if◌then◌else◌}
use Rattle.vp8_tables.specs.Tables.{TableEntries}
use Rattle.macroblock_lists.specs.declared.layouts.Form.{Form}
use Rattle.stream_sources.specs.declared.sources.Source.{Source}
use Rattle.stream_sources.specs.Faults.{StreamRefuses}
use Rattle.stream_sources.specs.Sources.{IsSource}
use Rattle.stream_checks.specs.declared.fault.CheckFault.TheVariants as checks
use Rattle.stream_checks.specs.declared.finding.Tally.{Tally}
use Rattle.stream_checks.specs.Checks as checks_of
use Rattle.list_program.specs.declared.fault.Fault.{Fault}
use Rattle.list_program.specs.declared.fault.Fault.TheVariants.{Input, CannotWrite, NoMemory}

-- the exit status of a check: 1 for damage, and if it is strict for a note too
abbrev pub status_of : Bool → Tally → ℕ
status_of is_strict tally = if tally.damage == 0 && (not is_strict || tally.notes == 0) then 0 else 1

-- the bytes are a file, the output gained the text of its findings, and the status is theirs
pub record IsFileChecked (form : Form) (is_strict : Bool) (tables : TableEntries) (bytes : List ℕ) (status : ℕ) (output output' : Option (List ℕ)) : Type 0 where
  pub source : Source
  pub read : IsSource bytes source
  pub tally : Tally
  pub checked : checks_of.IsChecked form tables bytes source tally output output'
  pub counted : status ≡ status_of is_strict tally

-- the output gained the texts of the first findings of a file, or nothing
pub record IsFileBegun (form : Form) (tables : TableEntries) (bytes : List ℕ) (output output' : Option (List ℕ)) : Type 0 where
  pub source : Source
  pub read : IsSource bytes source
  pub begun : checks_of.IsEarlyEnd form tables bytes source output output' checks.NoMemory

-- why the check is not whole: the bytes are not a file, and then nothing was written; memory ran out; or the writer returned
-- an error
abbrev pub IsCheckedFault : Form → TableEntries → List ℕ → Option (List ℕ) → Option (List ℕ) → Fault → Type 0
IsCheckedFault form tables bytes output output' (Input fault) = StreamRefuses bytes fault × (output' ≡ output)
IsCheckedFault form tables bytes output output' NoMemory = IsFileBegun form tables bytes output output'
IsCheckedFault form tables bytes output output' CannotWrite = Unit {0}
IsCheckedFault form tables bytes output output' _ = ⊥
