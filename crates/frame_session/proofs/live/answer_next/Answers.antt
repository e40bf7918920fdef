use Rattle.std.proofs.Common.{◌≡◌, ◌∙◌, Bool, true, false, refl, rules}
use Rattle.std.proofs.lemmas.Bool.{true≢false}
use Rattle.frame_session.proofs.AtCost.{serves_of}
use Rattle.frame_session.proofs.LiveRuns.{ends_first, nothing_left, read_answered, read_refused}
use Rattle.frame_session.specs.Noted.{is_frame}
use Rattle.frame_session.proofs.Noted.{not_frame, noted_line}
use Rattle.frame_session.proofs.live.answer_next.Goals.{in-Frame, in_default}
use Rattle.frame_session.proofs.live.answer_next.Goals as goal
use Rattle.frame_session.proofs.live.answer_next.Goals.{else-not-is_terminated-via-then-not-is_terminated+else-line-eq0, else-not-is_terminated-via-else-not-is_terminated}

never : (t : Bool) → t ≡ true → t ≡ false → ⊥
never true e e' = true≢false e'
never false e e' = true≢false (cc)

pub returns-in_err-is_terminated-clause-err : goal.returns-in_err-is_terminated-clause-err
returns-in_err-is_terminated-clause-err g c =
    let i = g.I.Read.remaining in
    let x = c.in_err-is_terminated.ensures in
    let why = ends_first c.args.session.now.state (i c.args.input.now) (i c.read_whole_line.new.input) (g.F.Write.contents c.args.frames.now) (g.P.Write.contents c.args.replies.now) x.0 x.1 c.in_err-is_terminated.field-0.0 x.2 in
    search rules

pub returns-then-line-eq0-clause-ok : goal.returns-then-line-eq0-clause-ok
returns-then-line-eq0-clause-ok g c =
    let i = g.I.Read.remaining in
    nothing_left c.args.session.now (i c.args.input.now) (i c.read_whole_line.new.input) (g.F.Write.contents c.args.frames.now) (g.P.Write.contents c.args.replies.now) (g.V.Observer.has_refused c.args.observer.now) c.read_whole_line.new.line c.in_ok-is_terminated.is_terminated c.in_ok-is_terminated.ensures c.if-not-is_terminated.true c.if-line-eq0.true

pub returns-in-Ok-clause-ok : goal.returns-in-Ok-clause-ok
returns-in-Ok-clause-ok g c =
    let i = g.I.Read.remaining in
    let f = g.F.Write.contents in
    let r = g.P.Write.contents in
    let seen = g.V.Observer.has_refused c.args.observer.now in
    let seen' = g.V.Observer.has_refused c.answered.new.self in
    let t = c.in_ok-is_terminated.is_terminated in
    let some : t ≡ false → c.read_whole_line.new.line.length ≡ 0 → ⊥ = elim c.else-not-is_terminated.branch [
      | else-not-is_terminated-via-then-not-is_terminated+else-line-eq0 w ↦ λ e none. w.if-line-eq0.false none
      | else-not-is_terminated-via-else-not-is_terminated w ↦ λ e none. never t w.if-not-is_terminated.false e
    ] in
    let asks : c.match-matches.matches ≡ is_frame c.request-request.result = elim c.match-matches.branch [
      | in-Frame w ↦ rw (w.matches-is, w.in-Frame.is) refl
      | in_default w ↦ w.matches-is ∙ not_frame c.request-request.result w.in_default.not-Frame
    ] in
    read_answered c.args.session.now c.serve_line.new.session (i c.args.input.now) (i c.read_whole_line.new.input) (f c.args.frames.now) (f c.serve_line.new.frames) (r c.args.replies.now) (r c.serve_line.new.replies) c.read_whole_line.new.line c.request-request.result seen seen' t c.in_ok-is_terminated.ensures some c.request-request.ensures (serves_of c.args.session.now c.request-request.result (f c.args.frames.now) (f c.serve_line.new.frames) (r c.args.replies.now) (r c.serve_line.new.replies) c.in-Ok.told c.serve_line.new.session c.in-Ok.ensures.costs) c.in-Ok.ensures.costs.costs (noted_line c.request-request.result c.in-Ok.ensures.costs.answer c.match-matches.matches c.in-Ok.told seen seen' asks c.in-Ok.ensures.costs.told c.answered.ensures)

pub returns-clause-err : goal.returns-clause-err
returns-clause-err g c =
    let i = g.I.Read.remaining in
    let f = g.F.Write.contents in
    let r = g.P.Write.contents in
    let t = c.in_ok-is_terminated.is_terminated in
    let some : t ≡ false → c.read_whole_line.new.line.length ≡ 0 → ⊥ = elim c.else-not-is_terminated.branch [
      | else-not-is_terminated-via-then-not-is_terminated+else-line-eq0 w ↦ λ e none. w.if-line-eq0.false none
      | else-not-is_terminated-via-else-not-is_terminated w ↦ λ e none. never t w.if-not-is_terminated.false e
    ] in
    read_refused c.args.session.now c.serve_line.new.session (i c.args.input.now) (i c.read_whole_line.new.input) (f c.args.frames.now) (f c.serve_line.new.frames) (r c.args.replies.now) (r c.serve_line.new.replies) c.read_whole_line.new.line c.request-request.result t c.in_ok-is_terminated.ensures some c.request-request.ensures c.serve_line.ensures.frame_first
