use Rattle.std.proofs.Common.{inr}
use Rattle.session_questions.proofs.Progressed.{key_found}
use Rattle.session_questions.proofs.details.key_before.Goals as goal

pub returns-in-Some-clause-key : goal.returns-in-Some-clause-key
returns-in-Some-clause-key c = inr (key_found c.args.store.now.list c.args.at c.in-Some.place (rw c.in-Some.is at c.last_key.ensures))
