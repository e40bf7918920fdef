use Rattle.std.proofs.Common.{◌≡◌, ℕ, ◌+◌, ◌*◌, ◌-◌, ◌<◌, ◌≤◌, Bool, Some, get_or, slice_get}
use Rattle.packet_edits.specs.FlagCounts.{count_with}
use Rattle.packet_edits.proofs.starts.moved_down.Given as goal

abbrev pub invariant-loop-k : goal.invariant-loop-k
invariant-loop-k l = record {
  len : l.counts.len ≡ l.fn.counts.len;
  done : (k : ℕ) (was : Bool) → l.first ≤ k → k < l.k → slice_get l.flags ((k + 1) * 1024) ≡ Some was → get_or l.counts.items k 0 ≡ count_with (get_or l.fn.counts.items k 0) l.flag - count_with 0 was;
  rest : (k : ℕ) → l.k ≤ k → get_or l.counts.items k 0 ≡ get_or l.fn.counts.items k 0;
  before : (k : ℕ) → k < l.first → get_or l.counts.items k 0 ≡ get_or l.fn.counts.items k 0;
}
