use Rattle.std.proofs.Common.{◌≡◌, ◌∙◌, ◌+◌, false, true, arith, rules, refl}
use Rattle.frame_session.proofs.LiveRuns.{any_number, ends_endless, ends_more, text_more, text_none}
use Rattle.frame_session.proofs.live.serve_live.Goals as goal

pub lines-init : goal.lines-init
lines-init g c = record {
  ran = text_none c.args.session.now (g.I.Read.remaining c.args.input.now) (g.F.Write.contents c.args.frames.now) (g.P.Write.contents c.args.replies.now) (g.V.Observer.has_refused c.args.observer.now);
  capacity = refl;
}

pub returns-in_err-answer_next-clause-err : goal.returns-in_err-answer_next-clause-err
returns-in_err-answer_next-clause-err g c =
    let i = g.I.Read.remaining in
    let f = g.F.Write.contents in
    let r = g.P.Write.contents in
    let o = g.V.Observer.has_refused in
    let mid = c.lines.session in
    let why = ends_more c.lines._answered c.args.session.now mid mid (i c.args.input.now) (i c.lines.input) (i c.answer_next.new.input) (f c.args.frames.now) (f c.lines.frames) (f c.answer_next.new.frames) (r c.args.replies.now) (r c.lines.replies) (r c.answer_next.new.replies) (o c.args.observer.now) (o c.lines.observer) c.lines.invariant.ran c.in_err-answer_next.field-0.0 c.in_err-answer_next.ensures.err in
    search rules

pub returns-then-not-branch-clause-ok : goal.returns-then-not-branch-clause-ok
returns-then-not-branch-clause-ok g c =
    let i = g.I.Read.remaining in
    let f = g.F.Write.contents in
    let r = g.P.Write.contents in
    let o = g.V.Observer.has_refused in
    let none : c.in_ok-answer_next.field-0 ≡ false = search rules in
    any_number (c.lines._answered + 0) false (o c.args.observer.now) (o c.answer_next.new.observer) c.args.session.now c.answer_next.new.session (i c.args.input.now) (i c.answer_next.new.input) (f c.args.frames.now) (f c.answer_next.new.frames) (r c.args.replies.now) (r c.answer_next.new.replies)
    (text_more c.lines._answered c.args.session.now c.lines.session c.answer_next.new.session (i c.args.input.now) (i c.lines.input) (i c.answer_next.new.input) (f c.args.frames.now) (f c.lines.frames) (f c.answer_next.new.frames) (r c.args.replies.now) (r c.lines.replies) (r c.answer_next.new.replies) (o c.args.observer.now) (o c.lines.observer) c.lines.invariant.ran 0 false (o c.answer_next.new.observer) (rw none at c.in_ok-answer_next.ensures.ok))

pub lines-preserved : goal.lines-preserved
lines-preserved g c =
    let i = g.I.Read.remaining in
    let f = g.F.Write.contents in
    let r = g.P.Write.contents in
    let o = g.V.Observer.has_refused in
    let more : c.in_ok-answer_next.field-0 ≡ true = search rules in
    record {
      ran = text_more c.lines._answered c.args.session.now c.lines.session c.answer_next.new.session (i c.args.input.now) (i c.lines.input) (i c.answer_next.new.input) (f c.args.frames.now) (f c.lines.frames) (f c.answer_next.new.frames) (r c.args.replies.now) (r c.lines.replies) (r c.answer_next.new.replies) (o c.args.observer.now) (o c.lines.observer) c.lines.invariant.ran 1 true (o c.answer_next.new.observer) (rw more at c.in_ok-answer_next.ensures.ok);
      capacity = c.answer_next.ensures.capacity ∙ c.lines.invariant.capacity;
    }

pub returns-clause-err : goal.returns-clause-err
returns-clause-err g c =
    let i = g.I.Read.remaining in
    let f = g.F.Write.contents in
    let r = g.P.Write.contents in
    let o = g.V.Observer.has_refused in
    ends_endless c.lines._answered (o c.args.observer.now) (o c.lines.observer) c.args.session.now c.lines.session (i c.args.input.now) (i c.lines.input) (f c.args.frames.now) (f c.lines.frames) (r c.args.replies.now) (r c.lines.replies) (omega (arith, c.lines-test.false)) c.lines.invariant.ran
