use Rattle.std.proofs.Common.{◌≡◌, ◌≤◌, ℕ, ◌<◌, length, Some, slice_get}
use Rattle.loop_filter.specs.Strengths.{limits_of}
use Rattle.loop_filter.proofs.strengths.limits_of_levels.Given as goal

abbrev pub invariant-loop-level : goal.invariant-loop-level
invariant-loop-level l =
    (length l.all ≡ 64) ×
    ((k : ℕ) → k < l.level → (slice_get l.all k ≡ Some (limits_of k l.sharpness l.is_key)) × ((limits_of k l.sharpness l.is_key).macroblock_edge ≤ 193) × ((limits_of k l.sharpness l.is_key).inner_edge ≤ 189))
