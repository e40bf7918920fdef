use Rattle.std.proofs.Common.{◌≡◌, ◌≤◌, drop}
use Rattle.stream_facts.specs.Facts.{facts_from}
use Rattle.stream_facts.specs.Refusals.{has_refused, refuses_one}
use Rattle.stream_facts.proofs.refusals.has_refused.Given as goal

abbrev pub invariant-loop-packet : goal.invariant-loop-packet
invariant-loop-packet l = record {
  same : has_refused (facts_from l.position (drop l.packet-index l.packets)) ≡ refuses_one l.packets;
  packets : l.position.packets ≡ l.packet-index;
  frames : l.position.frames ≤ l.position.packets;
}
