-- Where the packets of a stream are in its file.
use Rattle.std.specs.Prelude.{ℕ, List, map, slice_index_or}
use Rattle.stream_files.specs.declared.packets.Packet.{Packet}
use Rattle.stream_facts.specs.declared.facts.Facts.{Facts}
use Rattle.stream_facts.specs.declared.places.Places.{Places}
use Rattle.stream_facts.specs.declared.places.Places.TheVariants.{Records, Listed}
use Rattle.stream_facts.specs.Facts.{facts_in}

-- the byte of the file at which a packet's bytes begin: after the head of its record, or the one that is listed for it
abbrev pub byte_in : Places → Facts → ℕ
byte_in (Records begins) facts = facts.byte
byte_in (Listed bytes) facts = slice_index_or bytes.items facts.packet 0

-- the byte at which the first record begins; nothing depends on it where bytes are listed
abbrev pub first_record : Places → ℕ
first_record (Records begins) = begins
first_record (Listed bytes) = 0

-- the facts of a packet, with that byte
abbrev pub placed : Places → Facts → Facts
placed places facts = record {
  packet = facts.packet;
  frame = facts.frame;
  stamp = facts.stamp;
  bytes = facts.bytes;
  byte = byte_in places facts;
  tag = facts.tag;
  size = facts.size;
  scales = facts.scales;
  header = facts.header;
  is_lost = facts.is_lost;
}

-- the facts of each packet of a file. In the records of an IVF file they are those of `facts_in` (`laws::records_are_places`)
abbrev pub facts_at : Places → List Packet → List Facts
facts_at places packets = map (placed places) (facts_in (first_record places) packets)
