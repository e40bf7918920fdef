-- How a program ends.
use Rattle.std.specs.Prelude.{◌≡◌, ℕ, List, Option, Result, Ok, Err}
use Rattle.clap.specs.declared.error.Error.{Error}
use Rattle.clap.specs.declared.error.kind.ErrorKind.{ErrorKind}
use Rattle.clap.specs.declared.error.kind.ErrorKind.TheVariants.{DisplayHelp, DisplayVersion, OutOfMemory}
use Rattle.clap.specs.Values.{kind_of}
use Rattle.command_lines.specs.declared.fault.ArgumentFault.{ArgumentFault}
use Rattle.command_lines.specs.declared.fault.ArgumentFault.TheVariants.{CommandLine, CannotWrite, NoMemory}

-- the exit status of a program that ended like this, if an error has the status `status`
abbrev pub exit_status : {F : Type 0} → (status : F → ℕ) → Result ℕ F → ℕ
exit_status status (Ok n) = n
exit_status status (Err fault) = status fault

-- arguments that could not be parsed ask for help or for the version
abbrev pub AsksHelp : ErrorKind → Type 0
AsksHelp DisplayHelp = Unit {0}
AsksHelp DisplayVersion = Unit {0}
AsksHelp _ = ⊥

abbrev pub IsHelp : Error → Type 0
IsHelp error = AsksHelp (kind_of error)

-- why arguments that could not be parsed were not answered: they are a mistake, or memory ran out for them, and the output is as it was; or they ask for
-- help, which was not written
abbrev pub IsHelpFault : Error → (output output' : Option (List ℕ)) → ArgumentFault → Type 0
IsHelpFault error output output' CommandLine = (IsHelp error → ⊥) × (output' ≡ output)
IsHelpFault error output output' CannotWrite = IsHelp error
IsHelpFault error output output' NoMemory = (kind_of error ≡ OutOfMemory) × (output' ≡ output)
