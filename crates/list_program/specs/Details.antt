-- What the program writes of single packets: their macroblocks, or their headers.
use Rattle.std.specs.Prelude.{◌≡◌, ◌⊎◌, ℕ, ◌+◌, ◌-◌, ◌≤◌, min, List, length, Option, Some, None}
use Rattle.std.specs.Io.KnownBytes.{Appends}
use Rattle.vp8_tables.specs.Tables.{TableEntries}
use Rattle.stream_files.specs.declared.streams.Stream.{Stream}
use Rattle.stream_sources.specs.Faults.{StreamRefuses}
use Rattle.stream_sources.specs.Sources.{IsStream}
use Rattle.macroblock_lists.specs.Fronts.{GainsFront}
use Rattle.macroblock_lists.specs.Texts.{list_text}
use Rattle.macroblock_lists.specs.declared.listing.Wanted.{Wanted}
use Rattle.list_program.specs.declared.details.Asked.{Asked}
use Rattle.list_program.specs.declared.fault.Fault.{Fault}
use Rattle.list_program.specs.declared.fault.Fault.TheVariants.{Input, NoPacket, CannotWrite, NoMemory}

-- the index after the last packet that is asked for, in a stream of so many packets
abbrev pub end_of : Option ℕ → ℕ → ℕ
end_of None count = count
end_of (Some last) count = last + 1

-- and the index of the first; there is none if it comes after the last
abbrev pub start_of : Asked → ℕ → ℕ
start_of asked count = min asked.first (end_of asked.last count)

abbrev pub count_of : Asked → ℕ → ℕ
count_of asked count = end_of asked.last count - start_of asked count

-- the packets that are asked for, in a stream of so many
pub record IsWanted (asked : Asked) (count : ℕ) (wanted : Wanted) : Type 0 where
  pub inside : end_of asked.last count ≤ count
  pub what : wanted.what ≡ asked.what
  pub form : wanted.form ≡ asked.form
  pub first : wanted.first ≡ start_of asked count
  pub number : wanted.count ≡ count_of asked count

-- or the first or the last of them that is not there
abbrev pub IsAbsent : Asked → ℕ → Fault → Type 0
IsAbsent asked count (NoPacket packet number) = (number ≡ count) × (count ≤ packet) × ((asked.first ≡ packet) ⊎ (asked.last ≡ Some packet))
IsAbsent asked count _ = ⊥

-- the bytes are a file that has these packets, and the output gained their text
pub record IsDetailed (asked : Asked) (tables : TableEntries) (bytes : List ℕ) (output output' : Option (List ℕ)) : Type 0 where
  pub file : Stream
  pub read : IsStream bytes file
  pub inside : end_of asked.last (length file.packets) ≤ length file.packets
  pub written : Appends output output' (list_text asked.what asked.form tables file.packets (start_of asked (length file.packets)) (count_of asked (length file.packets)))

-- the bytes are a file of so many packets that does not have this one, the first or the last that is asked for
pub record HasNoPacket (asked : Asked) (bytes : List ℕ) (packet count : ℕ) : Type 0 where
  pub file : Stream
  pub read : IsStream bytes file
  pub counted : length file.packets ≡ count
  pub over : count ≤ packet
  pub asked_for : (asked.first ≡ packet) ⊎ (asked.last ≡ Some packet)

-- the bytes are a file that has these packets, and the output gained the front of their text
pub record IsDetailCut (asked : Asked) (tables : TableEntries) (bytes : List ℕ) (output output' : Option (List ℕ)) : Type 0 where
  pub file : Stream
  pub read : IsStream bytes file
  pub inside : end_of asked.last (length file.packets) ≤ length file.packets
  pub front : GainsFront (list_text asked.what asked.form tables file.packets (start_of asked (length file.packets)) (count_of asked (length file.packets))) output output'

-- why they were not written: the bytes are not a file, or a packet is not there, and then nothing was written; memory ran out; or the
-- writer returned an error
abbrev pub IsDetailFault : Asked → TableEntries → List ℕ → Option (List ℕ) → Option (List ℕ) → Fault → Type 0
IsDetailFault asked tables bytes output output' (Input fault) = StreamRefuses bytes fault × (output' ≡ output)
IsDetailFault asked tables bytes output output' (NoPacket packet count) = HasNoPacket asked bytes packet count × (output' ≡ output)
IsDetailFault asked tables bytes output output' NoMemory = IsDetailCut asked tables bytes output output'
IsDetailFault asked tables bytes output output' CannotWrite = Unit {0}
IsDetailFault asked tables bytes output output' _ = ⊥
