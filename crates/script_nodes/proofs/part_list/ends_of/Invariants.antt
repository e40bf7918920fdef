use Rattle.std.proofs.Common.{◌≡◌, ◌≤◌, ◌++◌, drop}
use Rattle.script_nodes.specs.PartLists.{ends_from, too_many}
use Rattle.script_nodes.proofs.part_list.ends_of.Given as goal

abbrev pub invariant-loop-part : goal.invariant-loop-part
invariant-loop-part l = record {
  small : l.total ≤ too_many;
  sums : ends_from 0 l.parts ≡ l.ends.items ++ ends_from l.total (drop l.part-index l.parts);
}
