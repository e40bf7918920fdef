-- The packets that are reported as refused are those that decoding refuses.
use Rattle.std.specs.Prelude.{◌≡◌, ◌⊎◌, ℕ, ◌<◌, true, false, List, slice_get, Some, Ok, Err, IsOk}
use Rattle.vp8_tables.specs.declared.tables.Tables.{Tables}
use Rattle.stream_files.specs.declared.packets.Packet.{Packet}
use Rattle.stream_facts.specs.Facts.{facts_in}
use Rattle.stream_facts.specs.declared.facts.Facts.{Facts}
use Rattle.stream_steps.specs.Decoding.{Outcome, outcomes}
use Rattle.stream_checks.specs.Packets.{bytes_of}

-- the facts of a packet report its outcome: decoding accepts it, refuses it for the cause that its own header has, or refuses it because
-- of an earlier packet
abbrev pub Report : ℕ → Facts → Outcome → Type 0
Report place facts (Ok step) = (facts.is_lost ≡ false) × IsOk facts.header
Report place facts (Err broken) =
    ((facts.is_lost ≡ false) × (broken.place ≡ place) × (facts.header ≡ Err broken.cause)) ⊎ ((facts.is_lost ≡ true) × (broken.place < place))

-- the facts of each packet of a stream do, with all tables
abbrev pub FactsAreDecoded : Type 0
FactsAreDecoded =
    (tables : Tables) (begins : ℕ) (packets : List Packet) (place : ℕ) (facts : Facts) (outcome : Outcome)
    → slice_get (facts_in begins packets) place ≡ Some facts → slice_get (outcomes tables (bytes_of packets)) place ≡ Some outcome → Report place facts outcome
