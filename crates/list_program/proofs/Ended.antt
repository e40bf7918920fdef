-- What the exit status says of a command line.
use Rattle.std.proofs.Common.{◌≡◌, ◌≤◌, ◌∙◌, inl, inr, ℕ, List, Option, Some, None, refl, subst, sym}
use Rattle.std.specs.Borrow.{Bor}
use Rattle.std.specs.Io.KnownBytes.{Keeps}
use Rattle.std.proofs.KnownBytes.{Keeps-refl}
use Rattle.clap.specs.declared.error.Error.{Error}
use Rattle.vp8_tables.specs.Tables.{TableEntries}
use Rattle.stream_sources.specs.declared.faults.StreamFault.{StreamFault}
use Rattle.command_lines.specs.Endings.{IsHelp, IsHelpFault}
use Rattle.command_lines.specs.Readings.{IsArgumentFault, IsTablesFault, Known}
use Rattle.command_lines.specs.declared.fault.ArgumentFault.{ArgumentFault}
use Rattle.command_lines.specs.declared.fault.FileFault.{FileFault}
use Rattle.command_lines.specs.declared.fault.FileFault.TheVariants as files
use Rattle.list_program.specs.Answers.{IsAnswered, IsAnswerFault}
use Rattle.list_program.specs.Done.{IsCut, IsEnded, IsRead, IsStatus, IsUnparsedStatus, IsUnread, tables_name}
use Rattle.list_program.specs.Statuses.{file_fault}
use Rattle.list_program.specs.declared.answering.Output.{Output}
use Rattle.list_program.specs.declared.answering.Output.TheVariants.{List as Listing, Hashes, Findings, Details}
use Rattle.list_program.specs.declared.arguments.Arguments.{Arguments}
use Rattle.list_program.specs.declared.fault.Fault.{Fault}
use Rattle.list_program.specs.declared.fault.Fault.TheVariants.{CommandLine, CannotRead, TooLong, Tables, Input, NoPacket, CannotWrite, NoMemory}

-- the file of the tables was not read, or IN
pub tables_unread : (known : Known) (line : Arguments) (left : Option (List ℕ)) (fault : FileFault) → IsTablesFault known (tables_name line) fault → IsUnread known line left left fault
tables_unread known line left fault why = inl (why, refl)

pub input_unread : (known : Known) (line : Arguments) (left left' : Option (List ℕ)) (fault : FileFault) → IsArgumentFault known left line.stream.now fault → IsUnread known line left left' fault
input_unread known line left left' fault why = inr why

module _ (known : Known) (line : Arguments) (left left' output : Option (List ℕ)) where
  -- one of them was not read
  pub unread : (why : FileFault) (fault : Fault) → fault ≡ file_fault why → IsUnread known line left left' why → IsEnded known line left left' output output fault
  unread why fault is cause = rw is (by why cause)
    where
      by : (why : FileFault) → IsUnread known line left left' why → IsEnded known line left left' output output (file_fault why)
      by (files.CannotRead path) cause = (cause, refl)
      by (files.TooLong path) cause = (cause, refl)
      by files.Tables cause = (cause, refl)
      by files.NoMemory cause = inl refl

  -- memory ran out before anything was written
  pub unheld : (fault : Fault) → fault ≡ NoMemory → IsEnded known line left left' output output fault
  unheld fault is = rw is (inl refl)

module _ (known : Known) (line : Arguments) (left left' output output' : Option (List ℕ)) (kind : Output) (asked : line.output ≡ Some kind) (tables : TableEntries) (bytes given : List ℕ) (same : bytes ≡ given) (given_read : IsRead known line left left' tables given) where
  read : IsRead known line left left' tables bytes
  read = subst (IsRead known line left left' tables) (sym same) given_read

  -- what is asked for was written
  pub answered : (status : ℕ) → status ≤ 1 → IsAnswered kind tables bytes status output output' → IsStatus known line left left' output output' status
  answered status few all = inl (few, record { kind = kind; asked = asked; tables = tables; bytes = bytes; read = read; answered = all })

  cut : (fault : Fault) → IsAnswerFault kind tables bytes output output' fault → IsCut known line left left' output output' fault
  cut fault why = record { kind = kind; asked = asked; tables = tables; bytes = bytes; read = read; fault_is = why }

  -- no output has an error of reading
  unasked : (kind : Output) → IsAnswerFault kind tables bytes output output' CommandLine → IsEnded known line left left' output output' CommandLine
  unasked (Listing form) why = absurd why
  unasked Hashes why = absurd why
  unasked (Findings checking) why = absurd why
  unasked (Details asked) why = absurd why

  unopened : (path : Bor (List ℕ)) (kind : Output) → IsAnswerFault kind tables bytes output output' (CannotRead path) → IsEnded known line left left' output output' (CannotRead path)
  unopened path (Listing form) why = absurd why
  unopened path Hashes why = absurd why
  unopened path (Findings checking) why = absurd why
  unopened path (Details asked) why = absurd why

  overlong : (path : Bor (List ℕ)) (kind : Output) → IsAnswerFault kind tables bytes output output' (TooLong path) → IsEnded known line left left' output output' (TooLong path)
  overlong path (Listing form) why = absurd why
  overlong path Hashes why = absurd why
  overlong path (Findings checking) why = absurd why
  overlong path (Details asked) why = absurd why

  untabled : (kind : Output) → IsAnswerFault kind tables bytes output output' Tables → IsEnded known line left left' output output' Tables
  untabled (Listing form) why = absurd why
  untabled Hashes why = absurd why
  untabled (Findings checking) why = absurd why
  untabled (Details asked) why = absurd why

  -- it was not written
  pub unanswered : (fault : Fault) → IsAnswerFault kind tables bytes output output' fault → IsEnded known line left left' output output' fault
  unanswered CommandLine why = unasked kind why
  unanswered (CannotRead path) why = unopened path kind why
  unanswered (TooLong path) why = overlong path kind why
  unanswered Tables why = untabled kind why
  unanswered (Input fault) why = cut (Input fault) why
  unanswered (NoPacket packet count) why = cut (NoPacket packet count) why
  unanswered CannotWrite why = cut CannotWrite why
  unanswered NoMemory why = inr (cut NoMemory why)

  -- the bytes are no stream
  pub no_stream : (fault : StreamFault) (status : ℕ) → status ≡ 2 → IsAnswerFault kind tables bytes output output' (Input fault) → IsStatus known line left left' output output' status
  no_stream fault status is why = inr (is, record { fault = Input fault; before = output'; ended = cut (Input fault) why; kept = Keeps-refl output' })

-- what was written was flushed, or that failed
pub failed : (known : Known) (line : Arguments) (left left' output before output' : Option (List ℕ)) (fault : Fault) (status : ℕ) → status ≡ 2 → IsEnded known line left left' output before fault → Keeps before output' → IsStatus known line left left' output output' status
failed known line left left' output before output' fault status is ended kept = inr (is, record { fault = fault; before = before; ended = ended; kept = kept })

-- arguments that could not be parsed
pub helped : (error : Error) (output output' : Option (List ℕ)) → IsHelp error → IsUnparsedStatus error output output' 0
helped error output output' asks = inl (refl, asks)

pub not_helped : (error : Error) (output before output' : Option (List ℕ)) (fault : ArgumentFault) (status : ℕ) → status ≡ 2 → IsHelpFault error output before fault → Keeps before output' → IsUnparsedStatus error output output' status
not_helped error output before output' fault status is why kept = inr (is, record { fault = fault; before = before; why = why; kept = kept })

-- options that do not go together
pub misfit : (known : Known) (line : Arguments) (left left' output output' : Option (List ℕ)) (status : ℕ) → line.output ≡ None → IsStatus known line left left' output output' status → status ≡ 2
misfit known line left left' output output' status none (inl (few, done)) =
    let wrong : None ≡ Some done.kind = sym none ∙ done.asked in
    absurd (cc)
misfit known line left left' output output' status none (inr (is, why)) = is
