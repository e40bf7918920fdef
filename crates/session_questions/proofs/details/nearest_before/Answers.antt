use Rattle.std.proofs.Common.{IfSome, Option, subst}
use Rattle.session_questions.specs.Kept.{IsReached}
use Rattle.session_questions.specs.declared.reached.Reached.{Reached}
use Rattle.session_questions.proofs.Progressed.{key_leads, known_leads}
use Rattle.session_questions.proofs.details.nearest_before.Goals as goal

pub returns-then-known-at : goal.returns-then-known-at
returns-then-known-at c = λ tables known.
    let list = c.args.store.now.list in
    let here : IsReached tables list c.in-Some.known = subst (λ (reached : Option Reached). IfSome reached (IsReached tables list)) c.in-Some.is known in
    (c.if-known-at.true, known_leads tables list c.in-Some.known.at c.args.at c.in-Some.known.progress c.if-known-at.true c.requires here.1)

pub returns : goal.returns
returns c = λ tables known. (c.key_before-key.ensures.within, key_leads tables c.args.store.now.list c.key_before-key.result c.args.at c.requires c.key_before-key.ensures.key)
