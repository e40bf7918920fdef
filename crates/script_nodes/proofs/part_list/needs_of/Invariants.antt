use Rattle.std.proofs.Common.{◌≡◌, ℕ, ◌<◌, length}
use Rattle.std.specs.Prelude.{slice_index_or}
use Rattle.script_nodes.specs.PartLists.{IsNeeded}
use Rattle.script_nodes.specs.declared.part_list.Part.{Part}
use Rattle.script_nodes.proofs.part_list.needs_of.Given as goal

abbrev pub invariant-loop-part : goal.invariant-loop-part
invariant-loop-part l = record {
  long : length l.needs ≡ 17;
  each : (k : ℕ) (d : Part) → k < l.part-index → IsNeeded l.needs (slice_index_or l.parts k d);
}
