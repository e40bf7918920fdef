use Rattle.std.proofs.Common.{◌≡◌, ◌≤◌, List, ℕ, ◌++◌, drop, map}
use Rattle.std.specs.List.{flat_map}
use Rattle.std.specs.Io.KnownBytes.{Appends}
use Rattle.stream_facts.specs.Facts.{facts_from}
use Rattle.stream_facts.specs.Places.{placed}
use Rattle.stream_facts.specs.Lines.{line_of}
use Rattle.stream_facts.specs.Lists.{list_text}
use Rattle.stream_facts.proofs.listing.write_listing.Given as goal

abbrev pub invariant-loop-packet : goal.invariant-loop-packet
invariant-loop-packet g l = record {
  done : List ℕ;
  whole : done ++ flat_map line_of (map (placed l.places) (facts_from l.position (drop l.packet-index l.packets))) ≡ list_text l.places l.packets;
  said : Appends (g.W.Write.contents l.fn.w) (g.W.Write.contents l.w) done;
  packets : l.position.packets ≡ l.packet-index;
  frames : l.position.frames ≤ l.position.packets;
}
