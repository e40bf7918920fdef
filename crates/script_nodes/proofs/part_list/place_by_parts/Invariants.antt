use Rattle.std.proofs.Common.{◌≡◌, ◌<◌, drop}
use Rattle.script_nodes.specs.Lengths.{parts_length, place_in}
use Rattle.script_nodes.proofs.part_list.place_by_parts.Given as goal

abbrev pub invariant-loop-part : goal.invariant-loop-part
invariant-loop-part l = record {
  same : place_in l.lengths l.parts l.fn.frame ≡ place_in l.lengths (drop l.part-index l.parts) l.left;
  inside : l.left < parts_length l.lengths (drop l.part-index l.parts);
}
