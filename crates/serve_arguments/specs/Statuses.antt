-- The program's errors and exit statuses.
use Rattle.std.specs.Prelude.{ℕ}
use Rattle.output_files.specs.declared.saving.Unsaved.{Unsaved}
use Rattle.output_files.specs.declared.saving.Unsaved.TheVariants as unsaved
use Rattle.command_lines.specs.declared.fault.ArgumentFault.{ArgumentFault}
use Rattle.command_lines.specs.declared.fault.ArgumentFault.TheVariants as arguments
use Rattle.command_lines.specs.declared.fault.FileFault.{FileFault}
use Rattle.command_lines.specs.declared.fault.FileFault.TheVariants as files
use Rattle.serve_arguments.specs.declared.fault.Fault.{Fault}
use Rattle.serve_arguments.specs.declared.fault.Mistake.TheVariants as mistakes
use Rattle.serve_arguments.specs.declared.fault.Fault.TheVariants.{CommandLine, NamedTwice, CannotRead, TooLong, Tables, Input, NotExported, CannotWrite, NoMemory}

-- a mistake on the command line has status 2, every other error 1
abbrev pub status_of : Fault → ℕ
status_of (CommandLine mistake) = 2
status_of (NamedTwice same) = 2
status_of (CannotRead path) = 1
status_of (TooLong path) = 1
status_of Tables = 1
status_of (Input source fault) = 1
status_of (NotExported why) = 1
status_of CannotWrite = 1
status_of NoMemory = 1

-- an error of the arguments as the program's
abbrev pub argument_fault : ArgumentFault → Fault
argument_fault arguments.CommandLine = CommandLine mistakes.Arguments
argument_fault arguments.CannotWrite = CannotWrite
argument_fault arguments.NoMemory = NoMemory

-- an error of a file that was not read as the program's
abbrev pub file_fault : FileFault → Fault
file_fault (files.CannotRead path) = CannotRead path
file_fault (files.TooLong path) = TooLong path
file_fault files.Tables = Tables
file_fault files.NoMemory = NoMemory

-- the error of packets that were not saved as the program's
abbrev pub fault_of : Unsaved → Fault
fault_of unsaved.NoMemory = NoMemory
fault_of (unsaved.Make error) = CannotWrite
fault_of unsaved.Write = CannotWrite
fault_of (unsaved.Sync error) = CannotWrite
fault_of (unsaved.Rename error) = CannotWrite
