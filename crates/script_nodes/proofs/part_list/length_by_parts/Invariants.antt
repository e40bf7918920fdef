use Rattle.std.proofs.Common.{◌≡◌, ◌+◌, drop}
use Rattle.script_nodes.specs.Lengths.{parts_length}
use Rattle.script_nodes.proofs.part_list.length_by_parts.Given as goal

abbrev pub invariant-loop-part : goal.invariant-loop-part
invariant-loop-part l = l.total + parts_length l.lengths (drop l.part-index l.parts) ≡ parts_length l.lengths l.parts
