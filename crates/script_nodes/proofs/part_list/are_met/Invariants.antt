use Rattle.std.proofs.Common.{ℕ, ◌<◌, ◌≤◌}
use Rattle.std.specs.Prelude.{slice_index}
use Rattle.script_nodes.proofs.part_list.are_met.Given as goal

abbrev pub invariant-loop-clip : goal.invariant-loop-clip
invariant-loop-clip l = (k : ℕ) → k < l.clip → slice_index l.needs k ≤ slice_index l.lengths k
