use Rattle.std.proofs.Common.{◌≡◌, ◌+◌, ◌≤◌, length}
use Rattle.state_cache.specs.Bytes.{cached_bytes}
use Rattle.state_cache.specs.ProofsOnly.{IsShed}
use Rattle.state_cache.proofs.cache.shed_to.Given as goal

abbrev pub invariant-loop-savings : goal.invariant-loop-savings
invariant-loop-savings l = record {
  shed : IsShed l.newest.key l.fn.kept.entries l.kept.entries;
  counted : l.others + l.newest.bytes ≡ cached_bytes l.kept.entries;
  fits : cached_bytes l.fn.kept.entries ≤ l.limit → l.kept.entries ≡ l.fn.kept.entries;
  savings : length l.savings.list ≡ length l.fn.savings.list;
}

abbrev pub decreases-loop-savings : goal.decreases-loop-savings
decreases-loop-savings l = length l.kept.entries
