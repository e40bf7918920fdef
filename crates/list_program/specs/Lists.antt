-- What the program writes for the bytes of a file.
use Rattle.std.specs.Prelude.{◌≡◌, ℕ, List, Option, Some, None}
use Rattle.std.specs.Io.KnownBytes.{Appends}
use Rattle.macroblock_lists.specs.declared.layouts.Form.{Form}
use Rattle.macroblock_lists.specs.declared.layouts.Form.TheVariants.{Lines, Objects}
use Rattle.stream_files.specs.declared.packets.Packet.{Packet}
use Rattle.stream_files.specs.Ivf.{header_length}
use Rattle.webm_files.specs.Media.{Kept}
use Rattle.webm_files.specs.Packets.{places_in}
use Rattle.stream_sources.specs.declared.sources.Source.{Source}
use Rattle.stream_sources.specs.Faults.{StreamRefuses}
use Rattle.stream_sources.specs.Sources.{IsSource}
use Rattle.stream_facts.specs.declared.places.Places.{Places}
use Rattle.stream_facts.specs.declared.places.Places.TheVariants.{Records, Listed}
use Rattle.stream_facts.specs.Lists.{list_text, objects_of}
use Rattle.list_program.specs.declared.fault.Fault.{Fault}
use Rattle.list_program.specs.declared.fault.Fault.TheVariants.{Input, CannotWrite, NoMemory}

-- where the packets of a file are: in the records of an IVF file, or in the blocks of a WebM file of which this is kept
abbrev pub ArePlaces : List ℕ → Option Kept → Places → Type 0
ArePlaces bytes None (Records begins) = begins ≡ header_length bytes
ArePlaces bytes None (Listed begins) = ⊥
ArePlaces bytes (Some media) (Records begins) = ⊥
ArePlaces bytes (Some media) (Listed begins) = begins.items ≡ places_in media.video media.blocks

-- the list of packets, as lines or as objects
abbrev pub listed_text : Form → Places → List Packet → List ℕ
listed_text Lines places packets = list_text places packets
listed_text Objects places packets = objects_of places packets

-- the bytes are a file, and the output gained the list of its packets
pub record IsListed (form : Form) (bytes : List ℕ) (output output' : Option (List ℕ)) : Type 0 where
  pub source : Source
  pub read : IsSource bytes source
  pub places : Places
  pub are : ArePlaces bytes source.media places
  pub listed : Appends output output' (listed_text form places source.stream.packets)

-- why it did not: the bytes are not a file, or memory ran out for the places, and then nothing was written; or the writer returned an error
abbrev pub IsListFault : List ℕ → Option (List ℕ) → Option (List ℕ) → Fault → Type 0
IsListFault bytes output output' (Input fault) = StreamRefuses bytes fault × (output' ≡ output)
IsListFault bytes output output' NoMemory = output' ≡ output
IsListFault bytes output output' CannotWrite = Unit {0}
IsListFault bytes output output' _ = ⊥
