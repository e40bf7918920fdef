-- What the program writes for the frames of a file.
use Rattle.std.specs.Prelude.{◌≡◌, ℕ, Bool, if◌then◌else◌, List, Option}
use Rattle.vp8_tables.specs.Tables.{TableEntries}
use Rattle.stream_files.specs.declared.streams.Stream.{Stream}
use Rattle.stream_sources.specs.Faults.{StreamRefuses}
use Rattle.stream_sources.specs.Sources.{IsStream}
use Rattle.stream_facts.specs.Refusals.{refuses_one}
use Rattle.stream_checks.specs.Hashes.{IsCut, IsHashed}
use Rattle.list_program.specs.declared.fault.Fault.{Fault}
use Rattle.list_program.specs.declared.fault.Fault.TheVariants.{Input, CannotWrite, NoMemory}

-- the exit status: 1 if a packet is refused
abbrev pub hash_status : Bool → ℕ
hash_status is_refused = if is_refused then 1 else 0

-- the bytes are a file, the output gained the text of its frames, and the status is its packets'
pub record IsFileHashed (tables : TableEntries) (bytes : List ℕ) (status : ℕ) (output output' : Option (List ℕ)) : Type 0 where
  pub file : Stream
  pub read : IsStream bytes file
  pub hashed : IsHashed tables file output output'
  pub counted : status ≡ hash_status (refuses_one file.packets)

-- the bytes are a file, and the output gained the front of that text
pub record IsFileCut (tables : TableEntries) (bytes : List ℕ) (output output' : Option (List ℕ)) : Type 0 where
  pub file : Stream
  pub read : IsStream bytes file
  pub cut : IsCut tables file output output'

-- why it did not: the bytes are not a file, and then nothing was written; memory ran out; or the writer returned an error
abbrev pub IsFileHashFault : TableEntries → List ℕ → Option (List ℕ) → Option (List ℕ) → Fault → Type 0
IsFileHashFault tables bytes output output' (Input fault) = StreamRefuses bytes fault × (output' ≡ output)
IsFileHashFault tables bytes output output' NoMemory = IsFileCut tables bytes output output'
IsFileHashFault tables bytes output output' CannotWrite = Unit {0}
IsFileHashFault tables bytes output output' _ = ⊥
