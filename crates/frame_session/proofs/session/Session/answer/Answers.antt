use Rattle.std.proofs.Common.{OnOk, refl, subst, sym}
use Rattle.request_lines.specs.declared.question.Question.{Question}
use Rattle.frame_session.specs.Questions.{GainsAnswer}
use Rattle.frame_session.specs.Sessions.{current_list}
use Rattle.frame_session.proofs.Listed.{check_gains}
use Rattle.frame_session.proofs.session.Session.answer.Goals as goal

pub returns-in-Check-clause-wrote : goal.returns-in-Check-clause-wrote
returns-in-Check-clause-wrote g c =
    let now = c.args.self.now.state in
    let r = g.W.Write.contents c.args.w.now in
    let r' = g.W.Write.contents c.answer_check.new.w in
    let Q : Question → Type 0 = λ question. OnOk c.answer_check.result (GainsAnswer now question r r') in
    subst Q (sym c.in-Check.is) (check_gains c.answer_check.result now (current_list now) c.in-Check.first c.in-Check.count r r' refl c.answer_check.ensures.wrote)
