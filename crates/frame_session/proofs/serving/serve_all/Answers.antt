use Rattle.std.proofs.Common.{◌≡◌, ◌∷◌, [], ◌++◌, Result, ap, refl, rules, sym, ◌∙◌}
use Rattle.std.specs.Result.{result_unwrap_or}
use Rattle.std.specs.Str.Lines.{lines}
use Rattle.request_lines.specs.declared.lines.Line.{Line}
use Rattle.request_lines.specs.declared.lines.Line.TheVariants.{Unknown}
use Rattle.request_lines.specs.declared.misfit.Misfit.{Misfit}
use Rattle.frame_session.specs.Answers.{requests_of}
use Rattle.frame_session.proofs.AtCost.{all_at_cost, costs_more, serves_of}
use Rattle.frame_session.proofs.Noted.{all_noted, not_frame, noted_append, noted_line, or_false}
use Rattle.frame_session.proofs.Served.{all_more, runs_more, runs_none}
use Rattle.frame_session.specs.Noted.{is_frame}
use Rattle.frame_session.proofs.serving.serve_all.Goals.{in-Frame, in_default-matches}
use Rattle.frame_session.proofs.serving.serve_all.Goals as goal

pub lines-preserved : goal.lines-preserved
lines-preserved g c =
    let asks : c.match-matches.matches ≡ is_frame c.unwrap_or-request.result = elim c.match-matches.branch [
      | in-Frame w ↦ rw (w.matches-is, w.in-Frame.is) refl
      | in_default-matches w ↦ w.matches-is ∙ not_frame c.unwrap_or-request.result w.in_default-matches.not-Frame
    ] in
    record {
      done = c.lines.invariant.done ++ c.unwrap_or-request.result ∷ [];
      whole = all_more c.lines.invariant.done c.unwrap_or-request.result c.in-Some.line.now (lines c.lines.rest.now) (lines c.in-Some.following.now) _ (c.unwrap_or-request.ensures ∙ ap (λ (read : Result Line Misfit). result_unwrap_or read Unknown) c.read_line.ensures) c.in-Some.ensures.next c.lines.invariant.whole;
      ran = runs_more _ _ _ _ _ _ _ _ _ _ _ c.lines.invariant.ran (serves_of _ _ _ _ _ _ _ _ c.in_ok-told.ensures.costs);
      costs = costs_more c.args.session.now c.lines.session c.serve_line.new.session c.lines.invariant.done c.lines.invariant.ran.answers c.unwrap_or-request.result c.in_ok-told.ensures.costs.answer c.lines.invariant.costs c.in_ok-told.ensures.costs.means c.in_ok-told.ensures.costs.costs;
      noted = noted_append c.args.session.now.state c.lines.session.state c.lines.invariant.done (c.unwrap_or-request.result ∷ []) c.lines.invariant.ran.answers (c.in_ok-told.ensures.costs.answer ∷ []) (g.V.Observer.has_refused c.args.observer.now) (g.V.Observer.has_refused c.lines.observer) (g.V.Observer.has_refused c.answered.new.self) c.lines.invariant.ran.means c.lines.invariant.noted
          (noted_line c.unwrap_or-request.result c.in_ok-told.ensures.costs.answer c.match-matches.matches c.in_ok-told.told (g.V.Observer.has_refused c.lines.observer) (g.V.Observer.has_refused c.answered.new.self) asks c.in_ok-told.ensures.costs.told c.answered.ensures);
      capacity = c.serve_line.ensures.capacity ∙ c.lines.invariant.capacity;
    }

pub lines-init : goal.lines-init
lines-init g c = record {
  done = [];
  whole = refl;
  ran = runs_none c.args.session.now.state (g.F.Write.contents c.args.frames.now) (g.P.Write.contents c.args.replies.now);
  costs = refl;
  noted = sym (or_false (g.V.Observer.has_refused c.args.observer.now));
  capacity = refl;
}

pub returns-in_default-clause-costs : goal.returns-in_default-clause-costs
returns-in_default-clause-costs g c =
    let f = g.F.Write.contents in
    let r = g.P.Write.contents in
    let none : lines c.lines.rest.now ≡ [] = search rules in
    all_at_cost c.args.session.now c.lines.session c.lines.invariant.done (lines c.lines.rest.now) (requests_of c.args.requests.now) (f c.args.frames.now) (f c.lines.frames) (r c.args.replies.now) (r c.lines.replies) none c.lines.invariant.whole c.lines.invariant.ran c.lines.invariant.costs

pub returns-in_default-clause-noted : goal.returns-in_default-clause-noted
returns-in_default-clause-noted g c =
    let f = g.F.Write.contents in
    let r = g.P.Write.contents in
    let o = g.V.Observer.has_refused in
    let none : lines c.lines.rest.now ≡ [] = search rules in
    all_noted c.args.session.now.state c.lines.session.state c.lines.invariant.done (lines c.lines.rest.now) (requests_of c.args.requests.now) (f c.args.frames.now) (f c.lines.frames) (r c.args.replies.now) (r c.lines.replies) (o c.args.observer.now) (o c.lines.observer) none c.lines.invariant.whole c.lines.invariant.ran c.lines.invariant.noted
