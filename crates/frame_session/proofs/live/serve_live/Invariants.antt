use Rattle.std.proofs.Common.{◌≡◌, true}
use Rattle.frame_session.specs.LiveSteps.{RunsText}
use Rattle.frame_session.proofs.live.serve_live.Given as goal

abbrev pub invariant-lines : goal.invariant-lines
invariant-lines g l = record {
  ran : RunsText l._answered l.fn.session l.session (g.I.Read.remaining l.fn.input) (g.I.Read.remaining l.input) (g.F.Write.contents l.fn.frames) (g.F.Write.contents l.frames) (g.P.Write.contents l.fn.replies) (g.P.Write.contents l.replies) true (g.V.Observer.has_refused l.fn.observer) (g.V.Observer.has_refused l.observer);
  capacity : l.session.cache.capacity ≡ l.fn.session.cache.capacity;
}
