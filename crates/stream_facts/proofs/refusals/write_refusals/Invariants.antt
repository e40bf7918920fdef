use Rattle.std.proofs.Common.{◌≡◌, ◌≤◌, List, ℕ, ◌++◌, drop}
use Rattle.std.specs.List.{flat_map}
use Rattle.std.specs.Io.KnownBytes.{Appends}
use Rattle.stream_facts.specs.Facts.{facts_from}
use Rattle.stream_facts.specs.Refusals.{refusal_of, refusals_of}
use Rattle.stream_facts.proofs.refusals.write_refusals.Given as goal

abbrev pub invariant-loop-packet : goal.invariant-loop-packet
invariant-loop-packet g l = record {
  done : List ℕ;
  whole : done ++ flat_map refusal_of (facts_from l.position (drop l.packet-index l.packets)) ≡ refusals_of l.packets;
  said : Appends (g.W.Write.contents l.fn.w) (g.W.Write.contents l.w) done;
  packets : l.position.packets ≡ l.packet-index;
  frames : l.position.frames ≤ l.position.packets;
}
