use Rattle.std.proofs.Common.{inr, None}
use Rattle.std.specs.Io.KnownBytes.{Appends}
use Rattle.std.proofs.lemmas.Result.{on_ok_weaker}
use Rattle.request_lines.specs.declared.lines.Line.TheVariants.{Frame}
use Rattle.frame_session.specs.Replies.{refused_line}
use Rattle.frame_session.specs.Answers.{WritesAnswer}
use Rattle.frame_session.proofs.AtCost.{frame_at_cost, refused_at_cost}
use Rattle.frame_session.proofs.Served.{frame_and_reply, frame_or_no_reply, serves_refused}
use Rattle.frame_session.proofs.serving.serve_frame.Goals as goal

pub returns-in-Err-clause-serves : goal.returns-in-Err-clause-serves
returns-in-Err-clause-serves g c =
    let f = g.F.Write.contents c.args.frames.now in
    let r = g.P.Write.contents c.args.replies.now in
    let r' = g.P.Write.contents c.write_refused.new.w in
    let served : Appends r r' (refused_line c.in-Err.refusal) → WritesAnswer c.args.session.now.state (Frame c.args.n) f f r r' c.frame.new.self.state =
    serves_refused c.args.session.now.state f f r r' c.args.n c.in-Err.refusal c.frame.new.self.state c.in-Err.ensures.returned c.in-Err.ensures.after in
    on_ok_weaker c.write_refused.result served c.write_refused.ensures.wrote

pub returns-in-Err-clause-frame_first : goal.returns-in-Err-clause-frame_first
returns-in-Err-clause-frame_first g c =
    let f = g.F.Write.contents c.args.frames.now in
    inr (serves_refused c.args.session.now.state f f None None c.args.n c.in-Err.refusal c.frame.new.self.state c.in-Err.ensures.returned c.in-Err.ensures.after tt)

pub returns-in-Ok-clause-serves : goal.returns-in-Ok-clause-serves
returns-in-Ok-clause-serves g c =
    let old = c.args.session.now.state in
    let f = g.F.Write.contents c.args.frames.now in
    let f' = g.F.Write.contents c.write_answer.new.frames in
    let r = g.P.Write.contents c.args.replies.now in
    let r' = g.P.Write.contents c.write_answer.new.replies in
    frame_and_reply old f f' r r' c.args.n c.in-Ok.picture c.frame.new.self.state c.rate_due-rate_due.result c.write_answer.result c.rate_due-rate_due.ensures c.in-Ok.ensures.returned c.in-Ok.ensures.after c.write_answer.ensures.frame c.write_answer.ensures.reply

pub returns-in-Ok-clause-frame_first : goal.returns-in-Ok-clause-frame_first
returns-in-Ok-clause-frame_first g c =
    let old = c.args.session.now.state in
    let f = g.F.Write.contents c.args.frames.now in
    let f' = g.F.Write.contents c.write_answer.new.frames in
    let r = g.P.Write.contents c.args.replies.now in
    let r' = g.P.Write.contents c.write_answer.new.replies in
    frame_or_no_reply old f f' r r' c.args.n c.in-Ok.picture c.frame.new.self.state c.rate_due-rate_due.result c.rate_due-rate_due.ensures c.in-Ok.ensures.returned c.in-Ok.ensures.after c.write_answer.ensures.frame_first

pub returns-in-Err-clause-costs : goal.returns-in-Err-clause-costs
returns-in-Err-clause-costs g c =
    let f = g.F.Write.contents c.args.frames.now in
    let r = g.P.Write.contents c.args.replies.now in
    let r' = g.P.Write.contents c.write_refused.new.w in
    refused_at_cost c.write_refused.result c.args.session.now f f r r' c.args.n c.in-Err.refusal c.frame.new.self c.in-Err.ensures.returned c.in-Err.ensures.after c.in-Err.ensures.costs c.write_refused.ensures.wrote c.write_refused.ensures.refusal

pub returns-in-Ok-clause-costs : goal.returns-in-Ok-clause-costs
returns-in-Ok-clause-costs g c =
    let f = g.F.Write.contents c.args.frames.now in
    let f' = g.F.Write.contents c.write_answer.new.frames in
    let r = g.P.Write.contents c.args.replies.now in
    let r' = g.P.Write.contents c.write_answer.new.replies in
    frame_at_cost c.write_answer.result c.args.session.now f f' r r' c.args.n c.in-Ok.picture c.frame.new.self c.rate_due-rate_due.result c.rate_due-rate_due.ensures c.in-Ok.ensures.returned c.in-Ok.ensures.after c.in-Ok.ensures.costs c.write_answer.ensures.frame c.write_answer.ensures.reply c.write_answer.ensures.none
