use Rattle.std.proofs.Common.{◌≡◌, ◌<◌, ◌+◌, ◌-◌, ◌*◌, ◌^◌, ℕ, Some, false, min, slice_get}
use Rattle.state_cache.proofs.savings.is_any_less.Given as goal

abbrev pub invariant-loop-index : goal.invariant-loop-index
invariant-loop-index l =
    l.any ≡ false → (n step last : ℕ) → n < l.index → slice_get l.steps n ≡ Some step → slice_get l.used n ≡ Some last → step * l.least.age < l.least.saved * (min (l.uses - last) (2 ^ 32 - 2) + 1) → ⊥
