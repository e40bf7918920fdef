-- The bytes of the files that a command line names, and why one was not read.
use Rattle.std.specs.Prelude.{◌≡◌, ◌≢◌, ℕ, ◌<◌, List, length, Option, Some, None, IfSome, Ok, codes}
use Rattle.vp8_tables.specs.Rfc.{rfc_entries}
use Rattle.vp8_tables.specs.Tables.{TableEntries, entries_of}
use Rattle.stream_files.specs.declared.reading.ReadFault.{ReadFault}
use Rattle.stream_files.specs.declared.reading.ReadFault.TheVariants as reads
use Rattle.command_lines.specs.declared.fault.FileFault.{FileFault}
use Rattle.command_lines.specs.declared.fault.FileFault.TheVariants.{CannotRead, TooLong, Tables, NoMemory}

-- the most bytes that a file may have
abbrev pub limit : ℕ
limit = 1073741824

-- the bytes of the file at a path, where they are known. Such a file can be read
abbrev pub Known : Type 0
Known = List ℕ → Option (List ℕ)

-- why a file was not read to its end, if it may have at most `most` bytes: of known bytes there are more
abbrev pub IsUnreadAt : (most : ℕ) → Option (List ℕ) → ReadFault → Type 0
IsUnreadAt most known reads.Read = known ≡ None
IsUnreadAt most known reads.TooLong = IfSome known (λ bytes. most < length bytes)
IsUnreadAt most known reads.NoMemory = Unit {0}

-- bytes are too many, where they are known
abbrev pub IsTooLong : Option (List ℕ) → Type 0
IsTooLong known = IfSome known (λ bytes. limit < length bytes)

-- why the bytes of a reader with this name, which has these bytes left, were not read
abbrev pub IsReadFault : List ℕ → Option (List ℕ) → FileFault → Type 0
IsReadFault name left (CannotRead path) = path.now ≡ name
IsReadFault name left (TooLong path) = (path.now ≡ name) × IsTooLong left
IsReadFault name left Tables = ⊥
IsReadFault name left NoMemory = Unit {0}

-- why the file with this name was not read
abbrev pub IsPathFault : Known → List ℕ → FileFault → Type 0
IsPathFault known name (CannotRead path) = (path.now ≡ name) × (known path.now ≡ None)
IsPathFault known name (TooLong path) = (path.now ≡ name) × IsTooLong (known path.now)
IsPathFault known name Tables = ⊥
IsPathFault known name NoMemory = Unit {0}

-- why the bytes of an argument were not read: of standard input for `-`, which has these bytes left, else of the file with this name
abbrev pub IsArgumentFault : Known → (left : Option (List ℕ)) → (name : List ℕ) → FileFault → Type 0
IsArgumentFault known left name (CannotRead path) = (path.now ≡ name) × (name ≢ codes "-" → known path.now ≡ None)
IsArgumentFault known left name (TooLong path) = (path.now ≡ name) × (name ≡ codes "-" → IsTooLong left) × (name ≢ codes "-" → IsTooLong (known path.now))
IsArgumentFault known left name Tables = ⊥
IsArgumentFault known left name NoMemory = Unit {0}

-- the tables of the file with this name are those of its bytes; without a name they are those of RFC 6386
abbrev pub AreTables : Known → Option (List ℕ) → TableEntries → Type 0
AreTables known None tables = tables ≡ rfc_entries
AreTables known (Some path) tables = IfSome (known path) (λ bytes. entries_of bytes ≡ Ok tables)

-- why the bytes of a text are not tables
abbrev pub IsTableFault : List ℕ → FileFault → Type 0
IsTableFault bytes Tables = length bytes ≢ 3012
IsTableFault bytes _ = ⊥

-- the bytes of the file with this name are not tables
abbrev pub AreNoTables : Known → Option (List ℕ) → Type 0
AreNoTables known None = ⊥
AreNoTables known (Some path) = IfSome (known path) (λ bytes. length bytes ≢ 3012)

-- why the tables were not read from the file with this name: without a name nothing is read
abbrev pub IsTablesFault : Known → Option (List ℕ) → FileFault → Type 0
IsTablesFault known named (CannotRead path) = (named ≡ Some path.now) × (known path.now ≡ None)
IsTablesFault known named (TooLong path) = (named ≡ Some path.now) × IsTooLong (known path.now)
IsTablesFault known named Tables = AreNoTables known named
IsTablesFault known named NoMemory = Unit {0}
