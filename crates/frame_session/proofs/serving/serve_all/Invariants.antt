use Rattle.std.proofs.Common.{◌≡◌, ◌||◌, List, ◌++◌, length}
use Rattle.request_lines.specs.declared.lines.Line.{Line}
use Rattle.frame_session.specs.Answers.{WritesAnswers, requests_of}
use Rattle.frame_session.specs.LineCosts.{RunCosts}
use Rattle.frame_session.specs.Noted.{refuses_some}
use Rattle.frame_session.proofs.serving.serve_all.Given as goal

abbrev pub invariant-lines : goal.invariant-lines
invariant-lines g l = record {
  done : List Line;
  whole : done ++ requests_of l.rest ≡ requests_of l.fn.requests;
  ran : WritesAnswers l.fn.session.state done (g.F.Write.contents l.fn.frames) (g.F.Write.contents l.frames) (g.P.Write.contents l.fn.replies) (g.P.Write.contents l.replies) l.session.state;
  costs : RunCosts l.fn.session done ran.answers l.session;
  noted : g.V.Observer.has_refused l.observer ≡ (g.V.Observer.has_refused l.fn.observer || refuses_some done ran.answers);
  capacity : l.session.cache.capacity ≡ l.fn.session.cache.capacity;
}

abbrev pub decreases-lines : goal.decreases-lines
decreases-lines g l = length l.rest
