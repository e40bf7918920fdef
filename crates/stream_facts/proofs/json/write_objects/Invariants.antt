use Rattle.std.proofs.Common.{◌≡◌, ◌≤◌, List, ℕ, ◌++◌, drop, map}
use Rattle.std.specs.List.{flat_map}
use Rattle.std.specs.Io.KnownBytes.{Appends}
use Rattle.stream_facts.specs.Facts.{facts_from}
use Rattle.stream_facts.specs.Places.{placed}
use Rattle.stream_facts.specs.Json.{object_of}
use Rattle.stream_facts.specs.Lists.{objects_of}
use Rattle.stream_facts.proofs.json.write_objects.Given as goal

abbrev pub invariant-loop-packet : goal.invariant-loop-packet
invariant-loop-packet g l = record {
  done : List ℕ;
  whole : done ++ flat_map object_of (map (placed l.places) (facts_from l.position (drop l.packet-index l.packets))) ≡ objects_of l.places l.packets;
  said : Appends (g.W.Write.contents l.fn.w) (g.W.Write.contents l.w) done;
  packets : l.position.packets ≡ l.packet-index;
  frames : l.position.frames ≤ l.position.packets;
}
