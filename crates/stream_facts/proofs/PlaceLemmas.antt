-- Facts by where the packets are in their file.
use Rattle.std.proofs.Common.{◌≡◌, ℕ, Bool, ◌||◌, List, [], ◌∷◌, map, refl, ap}
use Rattle.stream_files.specs.declared.packets.Packet.{Packet}
use Rattle.stream_facts.specs.declared.facts.Facts.{Facts}
use Rattle.stream_facts.specs.declared.facts.Position.{Position}
use Rattle.stream_facts.specs.declared.places.Places.TheVariants.{Records}
use Rattle.stream_facts.specs.Facts.{end_of_record, facts_from, facts_of, position_after}
use Rattle.stream_facts.specs.Places.{placed}
use Rattle.stream_facts.specs.Refusals.{has_refused, is_refused}

-- in records the byte is that of the facts
pub all_in_records : (begins : ℕ) (all : List Facts) → map (placed (Records begins)) all ≡ all
all_in_records begins [] = refl
all_in_records begins (facts ∷ rest) = ap (λ (others : List Facts). facts ∷ others) (all_in_records begins rest)

-- a position of another file, where the next record begins elsewhere
abbrev pub moved : ℕ → Position → Position
moved begins position = record {
  packets = position.packets;
  frames = position.frames;
  begins = begins;
  follows = position.follows;
  is_broken = position.is_broken;
}

-- no packet is refused because of where it is
pub refused_anywhere : (position : Position) (begins : ℕ) (packets : List Packet) → has_refused (facts_from position packets) ≡ has_refused (facts_from (moved begins position) packets)
refused_anywhere position begins [] = refl
refused_anywhere position begins (packet ∷ packets) = ap (λ (more : Bool). is_refused (facts_of position packet) || more) (refused_anywhere (position_after position packet) (end_of_record begins packet.bytes) packets)
