use Rattle.std.proofs.Common.{None, [], inl, inr, ap, refl}
use Rattle.frame_session.proofs.Asked.{no_question}
use Rattle.std.proofs.KnownBytes.{Appends-nil}
use Rattle.std.proofs.lemmas.Result.{on_ok_weaker}
use Rattle.request_lines.specs.declared.lines.Line.TheVariants as requests
use Rattle.frame_session.specs.Cached.{SessionValue}
use Rattle.frame_session.specs.Questions.{answer_to}
use Rattle.frame_session.specs.Sessions.{now_after_choice}
use Rattle.frame_session.proofs.AtCost.{asked_at_cost, chosen_at_cost, edited_at_cost, replied, script_at_cost}
use Rattle.frame_session.proofs.Served.{serves_asked, serves_chosen, serves_edited, serves_reply, serves_script}
use Rattle.frame_session.proofs.serving.serve.Goals as goal

pub returns-in-Silent-clause-serves : goal.returns-in-Silent-clause-serves
returns-in-Silent-clause-serves g c =
    let f = g.F.Write.contents c.args.frames.now in
    let r = g.P.Write.contents c.args.replies.now in
    rw c.in-Silent.is (serves_reply c.args.session.now.state f f r r requests.Silent [] (refl, refl) (Appends-nil r))

pub returns-in-Silent-clause-frame_first : goal.returns-in-Silent-clause-frame_first
returns-in-Silent-clause-frame_first g c =
    let f = g.F.Write.contents c.args.frames.now in
    rw c.in-Silent.is (inr (serves_reply c.args.session.now.state f f None None requests.Silent [] (refl, refl) tt))

pub returns-in-Unknown-clause-serves : goal.returns-in-Unknown-clause-serves
returns-in-Unknown-clause-serves g c =
    let f = g.F.Write.contents c.args.frames.now in
    let r = g.P.Write.contents c.args.replies.now in
    let r' = g.P.Write.contents c.write_refused.new.w in
    rw c.in-Unknown.is (on_ok_weaker c.write_refused.result (λ said. serves_reply c.args.session.now.state f f r r' requests.Unknown _ (refl, refl) said) c.write_refused.ensures.wrote)

pub returns-in-Unknown-clause-frame_first : goal.returns-in-Unknown-clause-frame_first
returns-in-Unknown-clause-frame_first g c =
    let f = g.F.Write.contents c.args.frames.now in
    rw c.in-Unknown.is (inr (serves_reply c.args.session.now.state f f None None requests.Unknown _ (refl, refl) tt))

pub returns-in-Use-clause-serves : goal.returns-in-Use-clause-serves
returns-in-Use-clause-serves g c =
    let f = g.F.Write.contents c.args.frames.now in
    let r = g.P.Write.contents c.args.replies.now in
    let r' = g.P.Write.contents c.write_edited.new.w in
    rw c.in-Use.is (on_ok_weaker c.write_edited.result (λ said. serves_chosen c.args.session.now.state f f r r' c.in-Use.source c.choose-chosen.result c.choose-chosen.new.self.state c.choose-chosen.ensures.returned (ap (λ (v : SessionValue). v.state) {y = record c.args.session.now { state = now_after_choice c.in-Use.source c.args.session.now.state }} c.choose-chosen.ensures.after) said) c.write_edited.ensures.wrote)

pub returns-in-Use-clause-frame_first : goal.returns-in-Use-clause-frame_first
returns-in-Use-clause-frame_first g c =
    let f = g.F.Write.contents c.args.frames.now in
    rw c.in-Use.is (inr (serves_chosen c.args.session.now.state f f None None c.in-Use.source c.choose-chosen.result c.choose-chosen.new.self.state c.choose-chosen.ensures.returned (ap (λ (v : SessionValue). v.state) {y = record c.args.session.now { state = now_after_choice c.in-Use.source c.args.session.now.state }} c.choose-chosen.ensures.after) tt))

pub returns-in-Edit-clause-serves : goal.returns-in-Edit-clause-serves
returns-in-Edit-clause-serves g c =
    let f = g.F.Write.contents c.args.frames.now in
    let r = g.P.Write.contents c.args.replies.now in
    let r' = g.P.Write.contents c.write_edited-in-Edit.new.w in
    rw c.in-Edit.is (on_ok_weaker c.write_edited-in-Edit.result (λ said. serves_edited c.args.session.now.state f f r r' c.in-Edit.edit c.edit_written-edited.result c.edit_written-edited.new.self.state c.edit_written-edited.ensures.returned c.edit_written-edited.ensures.after said) c.write_edited-in-Edit.ensures.wrote)

pub returns-in-Edit-clause-frame_first : goal.returns-in-Edit-clause-frame_first
returns-in-Edit-clause-frame_first g c =
    let f = g.F.Write.contents c.args.frames.now in
    rw c.in-Edit.is (inr (serves_edited c.args.session.now.state f f None None c.in-Edit.edit c.edit_written-edited.result c.edit_written-edited.new.self.state c.edit_written-edited.ensures.returned c.edit_written-edited.ensures.after tt))

pub returns-in-Script-clause-serves : goal.returns-in-Script-clause-serves
returns-in-Script-clause-serves g c =
    let f = g.F.Write.contents c.args.frames.now in
    let r = g.P.Write.contents c.args.replies.now in
    let r' = g.P.Write.contents c.write_edited-in-Script.new.w in
    rw c.in-Script.is (on_ok_weaker c.write_edited-in-Script.result (λ said. serves_script c.args.session.now.state f f r r' c.in-Script.text c.set_script-set.result c.set_script-set.new.self.state (rw c.as_slice.ensures at c.set_script-set.ensures.returned) (ap (λ (v : SessionValue). v.state) (rw c.as_slice.ensures at c.set_script-set.ensures.after)) said) c.write_edited-in-Script.ensures.wrote)

pub returns-in-Script-clause-frame_first : goal.returns-in-Script-clause-frame_first
returns-in-Script-clause-frame_first g c =
    let f = g.F.Write.contents c.args.frames.now in
    rw c.in-Script.is (inr (serves_script c.args.session.now.state f f None None c.in-Script.text c.set_script-set.result c.set_script-set.new.self.state (rw c.as_slice.ensures at c.set_script-set.ensures.returned) (ap (λ (v : SessionValue). v.state) (rw c.as_slice.ensures at c.set_script-set.ensures.after)) tt))

pub returns-in-Count-clause-serves : goal.returns-in-Count-clause-serves
returns-in-Count-clause-serves g c =
    let f = g.F.Write.contents c.args.frames.now in
    let r = g.P.Write.contents c.args.replies.now in
    let r' = g.P.Write.contents c.report_count.new.replies in
    rw c.in-Count.is (on_ok_weaker c.report_count.result (λ said. serves_reply c.args.session.now.state f f r r' requests.Count _ (refl, refl) said) c.report_count.ensures.wrote)

pub returns-in-Count-clause-frame_first : goal.returns-in-Count-clause-frame_first
returns-in-Count-clause-frame_first g c =
    let f = g.F.Write.contents c.args.frames.now in
    rw c.in-Count.is (inr (serves_reply c.args.session.now.state f f None None requests.Count _ (refl, refl) tt))

pub returns-in-Stats-clause-serves : goal.returns-in-Stats-clause-serves
returns-in-Stats-clause-serves g c =
    let f = g.F.Write.contents c.args.frames.now in
    let r = g.P.Write.contents c.args.replies.now in
    let r' = g.P.Write.contents c.write_stats.new.w in
    rw c.in-Stats.is (on_ok_weaker c.write_stats.result (λ said. serves_reply c.args.session.now.state f f r r' requests.Stats _ (refl, refl) said) (rw c.decoded.ensures.value at c.write_stats.ensures.wrote))

pub returns-in-Stats-clause-frame_first : goal.returns-in-Stats-clause-frame_first
returns-in-Stats-clause-frame_first g c =
    let f = g.F.Write.contents c.args.frames.now in
    rw c.in-Stats.is (inr (serves_reply c.args.session.now.state f f None None requests.Stats _ (refl, refl) tt))

pub returns-in-Ask-clause-serves : goal.returns-in-Ask-clause-serves
returns-in-Ask-clause-serves g c =
    let f = g.F.Write.contents c.args.frames.now in
    let r = g.P.Write.contents c.args.replies.now in
    let r' = g.P.Write.contents c.answer.new.w in
    rw (c.in-Ask.is, c.answer.ensures.same) (on_ok_weaker c.answer.result (λ gains. serves_asked c.args.session.now.state f f r r' c.in-Ask.question gains) c.answer.ensures.wrote)

pub returns-in-Ask-clause-frame_first : goal.returns-in-Ask-clause-frame_first
returns-in-Ask-clause-frame_first g c =
    let f = g.F.Write.contents c.args.frames.now in
    rw (c.in-Ask.is, c.answer.ensures.same) (inr (serves_reply c.args.session.now.state f f None None (requests.Ask c.in-Ask.question) _ (answer_to c.args.session.now.state c.in-Ask.question, inl refl, refl, refl) tt))

pub returns-in-Lost-clause-serves : goal.returns-in-Lost-clause-serves
returns-in-Lost-clause-serves g c =
    let f = g.F.Write.contents c.args.frames.now in
    let r = g.P.Write.contents c.args.replies.now in
    let r' = g.P.Write.contents c.write_refused-in-Lost.new.w in
    rw c.in-Lost.is (on_ok_weaker c.write_refused-in-Lost.result (λ said. serves_reply c.args.session.now.state f f r r' requests.Lost _ (refl, refl) said) c.write_refused-in-Lost.ensures.wrote)

pub returns-in-Lost-clause-frame_first : goal.returns-in-Lost-clause-frame_first
returns-in-Lost-clause-frame_first g c =
    let f = g.F.Write.contents c.args.frames.now in
    rw c.in-Lost.is (inr (serves_reply c.args.session.now.state f f None None requests.Lost _ (refl, refl) tt))

pub returns-in-Frame-clause-question : goal.returns-in-Frame-clause-question
returns-in-Frame-clause-question g c = λ asked. absurd (no_question _ _ c.in-Frame.is refl asked)

pub returns-in-Use-clause-question : goal.returns-in-Use-clause-question
returns-in-Use-clause-question g c = λ asked. absurd (no_question _ _ c.in-Use.is refl asked)

pub returns-in-Edit-clause-question : goal.returns-in-Edit-clause-question
returns-in-Edit-clause-question g c = λ asked. absurd (no_question _ _ c.in-Edit.is refl asked)

pub returns-in-Script-clause-question : goal.returns-in-Script-clause-question
returns-in-Script-clause-question g c = λ asked. absurd (no_question _ _ c.in-Script.is refl asked)

pub returns-in-Silent-clause-costs : goal.returns-in-Silent-clause-costs
returns-in-Silent-clause-costs g c =
    let f = g.F.Write.contents c.args.frames.now in
    let r = g.P.Write.contents c.args.replies.now in
    rw c.in-Silent.is (replied _ c.args.session.now f f r r requests.Silent [] c.args.session.now (refl, refl) (record { stores = refl; cache = refl }) (Appends-nil r) refl)

pub returns-in-Unknown-clause-costs : goal.returns-in-Unknown-clause-costs
returns-in-Unknown-clause-costs g c =
    let f = g.F.Write.contents c.args.frames.now in
    let r = g.P.Write.contents c.args.replies.now in
    let r' = g.P.Write.contents c.write_refused.new.w in
    rw c.in-Unknown.is (replied c.write_refused.result c.args.session.now f f r r' requests.Unknown _ c.args.session.now (refl, refl) (record { stores = refl; cache = refl }) c.write_refused.ensures.wrote refl)

pub returns-in-Use-clause-costs : goal.returns-in-Use-clause-costs
returns-in-Use-clause-costs g c =
    let f = g.F.Write.contents c.args.frames.now in
    let r = g.P.Write.contents c.args.replies.now in
    let r' = g.P.Write.contents c.write_edited.new.w in
    rw c.in-Use.is (chosen_at_cost c.write_edited.result c.args.session.now f f r r' c.in-Use.source c.choose-chosen.result c.choose-chosen.new.self c.choose-chosen.ensures.returned c.choose-chosen.ensures.after c.write_edited.ensures.wrote)

pub returns-in-Edit-clause-costs : goal.returns-in-Edit-clause-costs
returns-in-Edit-clause-costs g c =
    let f = g.F.Write.contents c.args.frames.now in
    let r = g.P.Write.contents c.args.replies.now in
    let r' = g.P.Write.contents c.write_edited-in-Edit.new.w in
    let e = c.edit_written-edited in
    rw c.in-Edit.is (edited_at_cost c.write_edited-in-Edit.result c.args.session.now f f r r' c.in-Edit.edit e.result e.new.self e.ensures.returned e.ensures.after (record { stores = e.ensures.stores; cache = e.ensures.cache }) c.write_edited-in-Edit.ensures.wrote)

pub returns-in-Script-clause-costs : goal.returns-in-Script-clause-costs
returns-in-Script-clause-costs g c =
    let f = g.F.Write.contents c.args.frames.now in
    let r = g.P.Write.contents c.args.replies.now in
    let r' = g.P.Write.contents c.write_edited-in-Script.new.w in
    rw c.in-Script.is (script_at_cost c.write_edited-in-Script.result c.args.session.now f f r r' c.in-Script.text c.set_script-set.result c.set_script-set.new.self (rw c.as_slice.ensures at c.set_script-set.ensures.returned) (rw c.as_slice.ensures at c.set_script-set.ensures.after) c.write_edited-in-Script.ensures.wrote)

pub returns-in-Count-clause-costs : goal.returns-in-Count-clause-costs
returns-in-Count-clause-costs g c =
    let f = g.F.Write.contents c.args.frames.now in
    let r = g.P.Write.contents c.args.replies.now in
    let r' = g.P.Write.contents c.report_count.new.replies in
    rw c.in-Count.is (replied c.report_count.result c.args.session.now f f r r' requests.Count _ c.args.session.now (refl, refl) (record { stores = refl; cache = refl }) c.report_count.ensures.wrote refl)

pub returns-in-Stats-clause-costs : goal.returns-in-Stats-clause-costs
returns-in-Stats-clause-costs g c =
    let f = g.F.Write.contents c.args.frames.now in
    let r = g.P.Write.contents c.args.replies.now in
    let r' = g.P.Write.contents c.write_stats.new.w in
    rw c.in-Stats.is (replied c.write_stats.result c.args.session.now f f r r' requests.Stats _ c.args.session.now (refl, refl) (record { stores = refl; cache = refl }) (rw c.decoded.ensures.value at c.write_stats.ensures.wrote) refl)

pub returns-in-Ask-clause-costs : goal.returns-in-Ask-clause-costs
returns-in-Ask-clause-costs g c =
    let f = g.F.Write.contents c.args.frames.now in
    let r = g.P.Write.contents c.args.replies.now in
    let r' = g.P.Write.contents c.answer.new.w in
    rw (c.in-Ask.is, c.answer.ensures.same) (asked_at_cost c.answer.result c.args.session.now f r r' c.in-Ask.question c.answer.ensures.wrote)

pub returns-in-Lost-clause-costs : goal.returns-in-Lost-clause-costs
returns-in-Lost-clause-costs g c =
    let f = g.F.Write.contents c.args.frames.now in
    let r = g.P.Write.contents c.args.replies.now in
    let r' = g.P.Write.contents c.write_refused-in-Lost.new.w in
    rw c.in-Lost.is (replied c.write_refused-in-Lost.result c.args.session.now f f r r' requests.Lost _ c.args.session.now (refl, refl) (record { stores = refl; cache = refl }) c.write_refused-in-Lost.ensures.wrote refl)
