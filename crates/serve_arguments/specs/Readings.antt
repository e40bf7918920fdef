-- The bytes of the files that the program reads, and why they were not read.
use Rattle.std.specs.Prelude.{◌≡◌, ◌≢◌, ◌⊎◌, ℕ, List, Contains, Option, Some, None, IfSome, codes}
use Rattle.std.specs.List.{AllZip}
use Rattle.vp8_tables.specs.Tables.{TableEntries}
use Rattle.command_lines.specs.Readings.{AreNoTables, AreTables, IsTooLong, Known}
use Rattle.command_lines.specs.declared.fault.FileFault.{FileFault}
use Rattle.command_lines.specs.declared.fault.FileFault.TheVariants.{CannotRead, TooLong, Tables, NoMemory}

-- the bytes of files: those at a path, where they are known, and those of a source that is not named
pub record Contents : Type 0 where
  pub known : Known
  pub unnamed : List ℕ

abbrev pub contents_of : Known → List ℕ → Contents
contents_of known unnamed = record { known = known; unnamed = unnamed }

-- the source with this name has these bytes
abbrev pub IsNamed : Contents → (name bytes : List ℕ) → Type 0
IsNamed contents name bytes = (name ≡ codes "-" → bytes ≡ contents.unnamed) × (name ≢ codes "-" → IfSome (contents.known name) (λ there. bytes ≡ there))

-- the sources with these names have these bytes, one for each
abbrev pub AreNamed : Contents → (names sources : List (List ℕ)) → Type 0
AreNamed contents names sources = AllZip (IsNamed contents) names sources

-- the tables and the bytes of the sources that were read, from the files with these names
pub record AreRead (contents : Contents) (tables : Option (List ℕ)) (names : List (List ℕ)) (entries : TableEntries) (sources : List (List ℕ)) : Type 0 where
  pub tables_are : AreTables contents.known tables entries
  pub sources_are : AreNamed contents names sources

-- the requests with this name are this text: those that are not named are the rest of the input
abbrev pub AreRequests : Contents → (name : List ℕ) → (left : Option (List ℕ)) → (lines : List ℕ) → Type 0
AreRequests contents name left lines =
    (name ≡ codes "-" → IfSome left (λ bytes. lines ≡ bytes)) × (name ≢ codes "-" → IfSome (contents.known name) (λ there. lines ≡ there))

-- why one of the files with these names was not read: its bytes are not known, or are too many
abbrev pub AreUnread : Contents → List (List ℕ) → FileFault → Type 0
AreUnread contents names (CannotRead path) = Contains names path.now × (contents.known path.now ≡ None)
AreUnread contents names (TooLong path) = Contains names path.now × IsTooLong (contents.known path.now)
AreUnread contents names Tables = ⊥
AreUnread contents names NoMemory = Unit {0}

-- a name is the tables' or a source's, and no byte of the requests was read
abbrev pub IsBefore : (tables : Option (List ℕ)) → (sources : List (List ℕ)) → (left left' : Option (List ℕ)) → List ℕ → Type 0
IsBefore tables sources left left' name = (tables ≡ Some name ⊎ Contains sources name) × (left' ≡ left)

-- the file with this name could not be read: the tables' or a source's, or the requests'. If bytes at a path are known, the file can be read
abbrev pub IsUnread : Contents → (tables : Option (List ℕ)) → (sources : List (List ℕ)) → (requests : List ℕ) → (left left' : Option (List ℕ)) → List ℕ → Type 0
IsUnread contents tables sources requests left left' name =
    (IsBefore tables sources left left' name × (contents.known name ≡ None)) ⊎ ((requests ≡ name) × (requests ≢ codes "-" → contents.known name ≡ None))

-- it has too many bytes
abbrev pub IsOverlong : Contents → (tables : Option (List ℕ)) → (sources : List (List ℕ)) → (requests : List ℕ) → (left left' : Option (List ℕ)) → List ℕ → Type 0
IsOverlong contents tables sources requests left left' name =
    (IsBefore tables sources left left' name × IsTooLong (contents.known name))
    ⊎ ((requests ≡ name) × (requests ≡ codes "-" → IsTooLong left) × (requests ≢ codes "-" → IsTooLong (contents.known name)))

-- why a file was not read: the tables, a source or the requests
abbrev pub IsInputFault : Contents → (tables : Option (List ℕ)) → (sources : List (List ℕ)) → (requests : List ℕ) → (left left' : Option (List ℕ)) → FileFault → Type 0
IsInputFault contents tables sources requests left left' (CannotRead path) = IsUnread contents tables sources requests left left' path.now
IsInputFault contents tables sources requests left left' (TooLong path) = IsOverlong contents tables sources requests left left' path.now
IsInputFault contents tables sources requests left left' Tables = AreNoTables contents.known tables × (left' ≡ left)
IsInputFault contents tables sources requests left left' NoMemory = Unit {0}
