-- How a session is opened over the bytes of files.
use Rattle.std.specs.Prelude.{◌≡◌, ℕ, Bool, true, false, ◌&&◌, nat_le, List, [], ◌∷◌, length, map, slice_range, Option, Some, None, Ok, Err}
use Rattle.vp8_tables.specs.Rfc.{rfc_entries}
use Rattle.vp8_tables.specs.Tables.{entries_of}
use Rattle.vp8_tables.specs.declared.fault.TableFault.{TableFault}
use Rattle.vp8_tables.specs.declared.tables.Tables.{Tables}
use Rattle.stream_files.specs.declared.streams.Head.{Head}
use Rattle.stream_files.specs.declared.streams.Stream.{Stream}
use Rattle.stream_sources.specs.declared.faults.StreamFault.{StreamFault}
use Rattle.frame_session.specs.Answers.{AreStreams, Means, SourceRefuses}
use Rattle.frame_session.specs.Cached.{Capacity}
use Rattle.wokureti_c.specs.declared.engine.Engine.{Engine}
use Rattle.wokureti_c.specs.declared.frames.Fault.{Fault}
use Rattle.wokureti_c.specs.declared.opening.OpenFault.{OpenFault}
use Rattle.wokureti_c.specs.declared.opening.OpenFault.TheVariants as faults
use Rattle.wokureti_c.specs.Statuses.{number_of_file_fault}

-- the files that lie one after the other in these bytes, the first one from this place, each up to its end
abbrev pub files_from : ℕ → List ℕ → List ℕ → List (List ℕ)
files_from start bytes [] = []
files_from start bytes (end ∷ ends) = slice_range bytes start end ∷ files_from end bytes ends

abbrev pub files_in : List ℕ → List ℕ → List (List ℕ)
files_in bytes ends = files_from 0 bytes ends

-- no end is before the one before it, or past the end of the bytes
abbrev pub are_ends_from : ℕ → List ℕ → List ℕ → Bool
are_ends_from start bytes [] = true
are_ends_from start bytes (end ∷ ends) = nat_le start end && (nat_le end (length bytes) && are_ends_from end bytes ends)

-- one to eight files, and 1 to 4,096 states
abbrev pub are_allowed : List ℕ → List ℕ → ℕ → Bool
are_allowed bytes ends states =
    nat_le 1 (length ends) && nat_le (length ends) 8 && nat_le 1 states && nat_le states 4096 && are_ends_from 0 bytes ends

-- the tables that these bytes are; no bytes are the tables of RFC 6386
abbrev pub AreTables : List ℕ → Tables → Type 0
AreTables [] tables = tables ≡ rfc_entries
AreTables (byte ∷ bytes) tables = entries_of (byte ∷ bytes) ≡ Ok tables

-- the heads of the streams that are read from files
pub record AreHeads (files : List (List ℕ)) (heads : List Head) : Type 0 where
  pub streams : List Stream
  pub are : AreStreams files streams
  pub theirs : heads ≡ map (λ stream. stream.head) streams

-- an engine is opened over files: its session has the meaning of no requests over them, and this capacity. Their heads are kept
pub record IsOpened (files : List (List ℕ)) (capacity : Capacity) (bytes : List ℕ) (engine : Engine) : Type 0 where
  pub tables : Tables
  pub are : AreTables bytes tables
  pub means : Means tables files [] None None None None engine.session.state
  pub capacity_is : engine.session.cache.capacity ≡ capacity
  pub heads : AreHeads files engine.heads.items

-- why no session is opened: an argument that is not allowed, bytes that are no tables, the first file that is refused, or no memory
-- for a session over the files
abbrev pub OpenRefuses : List ℕ → List ℕ → ℕ → List ℕ → OpenFault → Type 0
OpenRefuses bytes ends states tables faults.Argument = are_allowed bytes ends states ≡ false
OpenRefuses bytes ends states tables faults.Tables = (fault : TableFault) × (entries_of tables ≡ Err fault)
OpenRefuses bytes ends states tables (faults.File source fault) = SourceRefuses (files_in bytes ends) source fault
OpenRefuses bytes ends states tables faults.Memory = (files : List Stream) × AreStreams (files_in bytes ends) files

-- the number of an error, and what is reported of it
abbrev pub Reports : OpenFault → ℕ → Fault → Type 0
Reports faults.Argument number reported = number ≡ 1
Reports faults.Tables number reported = number ≡ 6
Reports (faults.File source fault) number reported = (number ≡ 2) × (reported.source ≡ source) × (reported.cause ≡ number_of_file_fault fault)
Reports faults.Memory number reported = number ≡ 3

-- the call that opens a session returned a number that is not 0, and reported this
pub record IsNotOpened (bytes ends : List ℕ) (states : ℕ) (tables : List ℕ) (number : ℕ) (reported : Fault) : Type 0 where
  pub fault : OpenFault
  pub refuses : OpenRefuses bytes ends states tables fault
  pub reports : Reports fault number reported
