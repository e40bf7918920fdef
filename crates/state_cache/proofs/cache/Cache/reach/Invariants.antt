use Rattle.std.proofs.Common.{◌≡◌, ◌+◌, ◌-◌}
use Rattle.state_cache.specs.Reaching.{IsNext, view_of}
use Rattle.state_cache.specs.Views.{IsCoherent, marked_packets}
use Rattle.state_cache.proofs.Walked.{SoFar}
use Rattle.state_cache.proofs.WalkSteps.{Walking}
use Rattle.state_cache.proofs.cache.Cache.reach.Given as goal

abbrev pub invariant-loop-next : goal.invariant-loop-next
invariant-loop-next l = record {
  list : l.store.list ≡ l.fn.store.list;
  coherent : IsCoherent l.tables (marked_packets l.store) (view_of l.source l.self);
  next : IsNext (marked_packets l.store) (view_of l.source l.self) l.place l.next;
  so_far : SoFar l.tables l.source l.fn.store l.fn.self l.place l.store l.self l.next;
  walk : Walking l.tables l.source l.fn.store l.fn.self l.place l.store l.self l.next;
}

abbrev pub decreases-loop-next : goal.decreases-loop-next
decreases-loop-next l = l.place + 1 - l.next
