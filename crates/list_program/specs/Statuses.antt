-- The errors of the parts as the program's.
use Rattle.command_lines.specs.declared.fault.ArgumentFault.{ArgumentFault}
use Rattle.command_lines.specs.declared.fault.ArgumentFault.TheVariants as arguments
use Rattle.command_lines.specs.declared.fault.FileFault.{FileFault}
use Rattle.command_lines.specs.declared.fault.FileFault.TheVariants as files
use Rattle.list_program.specs.declared.fault.Fault.{Fault}
use Rattle.list_program.specs.declared.fault.Fault.TheVariants.{CommandLine, CannotRead, TooLong, Tables, CannotWrite, NoMemory}

-- an error of the arguments as the program's
abbrev pub argument_fault : ArgumentFault → Fault
argument_fault arguments.CommandLine = CommandLine
argument_fault arguments.CannotWrite = CannotWrite
argument_fault arguments.NoMemory = NoMemory

-- an error of a file that was not read as the program's
abbrev pub file_fault : FileFault → Fault
file_fault (files.CannotRead path) = CannotRead path
file_fault (files.TooLong path) = TooLong path
file_fault files.Tables = Tables
file_fault files.NoMemory = NoMemory
