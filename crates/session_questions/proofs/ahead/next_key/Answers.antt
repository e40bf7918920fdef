use Rattle.std.proofs.Common.{arith}
use Rattle.session_questions.proofs.NextKeys.{lost_is}
use Rattle.session_questions.proofs.ahead.next_key.Goals as goal

pub returns-in-Some : goal.returns-in-Some
returns-in-Some c =
    let found = rw c.in-Some.is at c.next_key.ensures in
    lost_is c.args.store.now.list.entries c.args.from c.in-Some.place (record { starts = found.starts; within = omega (arith, found.within, c.len.ensures.value); here = λ inside. found.here; earlier = found.earlier })

pub returns-in-None : goal.returns-in-None
returns-in-None c =
    let none = rw c.in-None.is at c.next_key.ensures in
    lost_is c.args.store.now.list.entries c.args.from c.len-in-None.result (record { starts = omega (arith, c.requires, c.len-in-None.ensures.value); within = omega (arith, c.len-in-None.ensures.value); here = λ inside. absurd (omega (arith, c.len-in-None.ensures.value)); earlier = λ p above below. none p above (omega (arith, c.len.ensures.value, c.len-in-None.ensures.value)) })
