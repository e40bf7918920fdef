-- What the program did, by its exit status. `left` and `left'` are what standard input has left before the run and after it.
use Rattle.std.specs.Prelude.{◌≡◌, ◌≢◌, ◌≤◌, ◌⊎◌, ℕ, List, Option, Some, None, option_map, IfSome, Result, Ok, Err, codes}
use Rattle.std.specs.Io.KnownBytes.{Keeps}
use Rattle.clap.specs.declared.error.Error.{Error}
use Rattle.vp8_tables.specs.Tables.{TableEntries}
use Rattle.command_lines.specs.Endings.{IsHelp, IsHelpFault}
use Rattle.command_lines.specs.Readings.{AreTables, IsArgumentFault, IsTablesFault, Known}
use Rattle.command_lines.specs.declared.fault.ArgumentFault.{ArgumentFault}
use Rattle.command_lines.specs.declared.fault.FileFault.{FileFault}
use Rattle.command_lines.specs.declared.fault.FileFault.TheVariants as files
use Rattle.list_program.specs.Answers.{IsAnswered, IsAnswerFault}
use Rattle.list_program.specs.declared.answering.Output.{Output}
use Rattle.list_program.specs.declared.arguments.Arguments.{Arguments}
use Rattle.list_program.specs.declared.fault.Fault.{Fault}
use Rattle.list_program.specs.declared.fault.Fault.TheVariants.{CommandLine, CannotRead, TooLong, Tables, Input, NoPacket, CannotWrite, NoMemory}

-- the name of the file of the tables, if there is one
abbrev pub tables_name : Arguments → Option (List ℕ)
tables_name line = option_map (λ path. path.now) line.tables

-- the tables of the file of `--tables`, those of RFC 6386 without it, and the bytes of IN: of standard input for `-`, else of the file, where they are
-- known. Nothing is read of standard input if IN names a file
pub record IsRead (known : Known) (line : Arguments) (left left' : Option (List ℕ)) (tables : TableEntries) (bytes : List ℕ) : Type 0 where
  pub tables_are : AreTables known (tables_name line) tables
  pub input : line.stream.now ≡ codes "-" → IfSome left (λ given. bytes ≡ given)
  pub named : line.stream.now ≢ codes "-" → IfSome (known line.stream.now) (λ there. bytes ≡ there)
  pub unread : line.stream.now ≢ codes "-" → left' ≡ left

-- the options go together, and the output gained what they ask for of the file that was read
pub record IsDone (known : Known) (line : Arguments) (left left' output output' : Option (List ℕ)) (status : ℕ) : Type 0 where
  pub kind : Output
  pub asked : line.output ≡ Some kind
  pub tables : TableEntries
  pub bytes : List ℕ
  pub read : IsRead known line left left' tables bytes
  pub answered : IsAnswered kind tables bytes status output output'

-- the options go together, and this is why the output did not gain what they ask for of the file that was read
pub record IsCut (known : Known) (line : Arguments) (left left' output output' : Option (List ℕ)) (fault : Fault) : Type 0 where
  pub kind : Output
  pub asked : line.output ≡ Some kind
  pub tables : TableEntries
  pub bytes : List ℕ
  pub read : IsRead known line left left' tables bytes
  pub fault_is : IsAnswerFault kind tables bytes output output' fault

-- why a file was not read: that of the tables, before a byte of standard input, or IN
abbrev pub IsUnread : Known → Arguments → (left left' : Option (List ℕ)) → FileFault → Type 0
IsUnread known line left left' fault = (IsTablesFault known (tables_name line) fault × (left' ≡ left)) ⊎ IsArgumentFault known left line.stream.now fault

-- why the output did not gain what a command line asks for: nothing was written if its options do not go together, or if a file was not read
abbrev pub IsEnded : Known → Arguments → (left left' output output' : Option (List ℕ)) → Fault → Type 0
IsEnded known line left left' output output' CommandLine = (line.output ≡ None) × (left' ≡ left) × (output' ≡ output)
IsEnded known line left left' output output' (CannotRead path) = IsUnread known line left left' (files.CannotRead path) × (output' ≡ output)
IsEnded known line left left' output output' (TooLong path) = IsUnread known line left left' (files.TooLong path) × (output' ≡ output)
IsEnded known line left left' output output' Tables = IsUnread known line left left' files.Tables × (output' ≡ output)
IsEnded known line left left' output output' (Input fault) = IsCut known line left left' output output' (Input fault)
IsEnded known line left left' output output' (NoPacket packet count) = IsCut known line left left' output output' (NoPacket packet count)
IsEnded known line left left' output output' CannotWrite = IsCut known line left left' output output' CannotWrite
IsEnded known line left left' output output' NoMemory = (output' ≡ output) ⊎ IsCut known line left left' output output' NoMemory

-- the output did not gain what a command line asks for, and what it gained was flushed, or that failed too
pub record IsFailed (known : Known) (line : Arguments) (left left' output output' : Option (List ℕ)) : Type 0 where
  pub fault : Fault
  pub before : Option (List ℕ)
  pub ended : IsEnded known line left left' output before fault
  pub kept : Keeps before output'

-- the exit status of a command line that was parsed: 0 or 1 if the output gained what it asks for, and 2 if not
abbrev pub IsStatus : Known → Arguments → (left left' output output' : Option (List ℕ)) → (status : ℕ) → Type 0
IsStatus known line left left' output output' status =
    ((status ≤ 1) × IsDone known line left left' output output' status) ⊎ ((status ≡ 2) × IsFailed known line left left' output output')

-- arguments that could not be parsed were not answered, and what the output gained was flushed, or that failed too
pub record IsUnanswered (error : Error) (output output' : Option (List ℕ)) : Type 0 where
  pub fault : ArgumentFault
  pub before : Option (List ℕ)
  pub why : IsHelpFault error output before fault
  pub kept : Keeps before output'

-- their exit status: 0 if they ask for help, and 2 if they were not answered
abbrev pub IsUnparsedStatus : Error → (output output' : Option (List ℕ)) → (status : ℕ) → Type 0
IsUnparsedStatus error output output' status = ((status ≡ 0) × IsHelp error) ⊎ ((status ≡ 2) × IsUnanswered error output output')

-- the exit status, for every command line
abbrev pub IsExitStatus : Known → Result Arguments Error → (left left' output output' : Option (List ℕ)) → (status : ℕ) → Type 0
IsExitStatus known (Ok line) left left' output output' status = IsStatus known line left left' output output' status
IsExitStatus known (Err error) left left' output output' status = IsUnparsedStatus error output output' status
