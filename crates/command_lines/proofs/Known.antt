-- What is known of the bytes at a path.
use Rattle.std.proofs.Common.{◌≡◌, ◌≢◌, ℕ, List, length, Option, Some, None, Ok, ap, refl, subst, sym}
use Rattle.std.specs.Prelude.{IfSome, codes}
use Rattle.vp8_tables.specs.Tables.{TableEntries, entries_of}
use Rattle.stream_files.specs.declared.reading.ReadFault.{ReadFault}
use Rattle.stream_files.specs.declared.reading.ReadFault.TheVariants as reads
use Rattle.command_lines.specs.Readings.{IsArgumentFault, IsPathFault, IsReadFault, IsTableFault, IsTablesFault, IsUnreadAt, Known}
use Rattle.command_lines.specs.declared.fault.FileFault.{FileFault}
use Rattle.command_lines.specs.declared.fault.FileFault.TheVariants.{CannotRead, TooLong, Tables, NoMemory}

-- a file of which no bytes are known was not read
pub unknown_unread : (most : ℕ) (known : Option (List ℕ)) (fault : ReadFault) → known ≡ None → IsUnreadAt most known fault
unknown_unread most known fault is = rw is (by fault)
  where
    by : (fault : ReadFault) → IsUnreadAt most None fault
    by reads.Read = refl
    by reads.TooLong = tt
    by reads.NoMemory = tt

-- standard input was not read, or a file
pub input_unread : (known : Known) (left : Option (List ℕ)) (name : List ℕ) (fault : FileFault) → name ≡ codes "-" → IsReadFault name left fault → IsArgumentFault known left name fault
input_unread known left name (CannotRead path) is why = (why, λ other. absurd (other is))
input_unread known left name (TooLong path) is why = (why.0, (λ same. why.1), λ other. absurd (other is))
input_unread known left name Tables is why = absurd why
input_unread known left name NoMemory is why = tt

pub path_unread : (known : Known) (left : Option (List ℕ)) (name : List ℕ) (fault : FileFault) → name ≢ codes "-" → IsPathFault known name fault → IsArgumentFault known left name fault
path_unread known left name (CannotRead path) is why = (why.0, λ other. why.1)
path_unread known left name (TooLong path) is why = (why.0, (λ same. absurd (is same)), λ other. why.1)
path_unread known left name Tables is why = absurd why
path_unread known left name NoMemory is why = tt

-- tables were read from known bytes
pub known_tables : (known : Option (List ℕ)) (all : List ℕ) (tables : TableEntries) → IfSome known (λ bytes. all ≡ bytes) → entries_of all ≡ Ok tables → IfSome known (λ bytes. entries_of bytes ≡ Ok tables)
known_tables None all tables is read = tt
known_tables (Some bytes) all tables is read = subst (λ (bytes : List ℕ). entries_of bytes ≡ Ok tables) is read

no_tables : (known : Option (List ℕ)) (all : List ℕ) → IfSome known (λ bytes. all ≡ bytes) → length all ≢ 3012 → IfSome known (λ bytes. length bytes ≢ 3012)
no_tables None all is none = tt
no_tables (Some bytes) all is none = subst (λ (bytes : List ℕ). length bytes ≢ 3012) is none

module _ (known : Known) (path : List ℕ) where
  -- the file of the tables was not read
  pub path_tables : (fault : FileFault) → IsPathFault known path fault → IsTablesFault known (Some path) fault
  path_tables (CannotRead file) why = (ap Some (sym why.0), why.1)
  path_tables (TooLong file) why = (ap Some (sym why.0), why.1)
  path_tables Tables why = absurd why
  path_tables NoMemory why = tt

  -- its bytes are not tables
  pub bytes_tables : (all : List ℕ) (fault : FileFault) → IfSome (known path) (λ bytes. all ≡ bytes) → IsTableFault all fault → IsTablesFault known (Some path) fault
  bytes_tables all (CannotRead file) is why = absurd why
  bytes_tables all (TooLong file) is why = absurd why
  bytes_tables all Tables is why = no_tables (known path) all is why
  bytes_tables all NoMemory is why = absurd why
