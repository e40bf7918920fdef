use Rattle.std.proofs.Common.{◌≡◌, ◌≤◌, take}
use Rattle.std.specs.List.{All}
use Rattle.frame_session.specs.Cached.{shown_counts_of}
use Rattle.frame_session.proofs.session.shown_counts.Given as goal

abbrev pub invariant-loop-store : goal.invariant-loop-store
invariant-loop-store l = record {
  value : l.counts.items ≡ shown_counts_of (take l.store-index l.fn.stores);
  few : All (λ count. count ≤ 1048576) l.counts.items;
}
