use Rattle.std.proofs.Common.{◌≤◌}
use Rattle.packet_edits.specs.Nearest.{HoldsNowhere}
use Rattle.state_cache.specs.Reaching.{view_of}
use Rattle.state_cache.specs.Views.{cached_at, marked_packets}
use Rattle.state_cache.proofs.cache.Cache.last_cached.Given as goal

abbrev pub invariant-loop-at : goal.invariant-loop-at
invariant-loop-at l = record {
  low : l.from ≤ l.at;
  high : l.at ≤ l.end;
  none : HoldsNowhere (cached_at (marked_packets l.store) (view_of l.source l.self)) l.at l.end;
}

abbrev pub decreases-loop-at : goal.decreases-loop-at
decreases-loop-at l = l.at
