use Rattle.std.proofs.Common.{◌≡◌, Option, Some, sym, ap, ◌∙◌, rules}
use Rattle.wokureti_c.specs.declared.engine.Engine.{Engine}
use Rattle.wokureti_c.proofs.exports.wk_request.Goals as goal

pub returns-clause-answered : goal.returns-clause-answered
returns-clause-answered c is =
    (c.deref_mut.result.now, _, sym c.in-Some.ensures.value ∙ ap (λ (engine : Engine). Some engine) (sym c.deref_mut.ensures.value), c.put.ensures, (c.answer-status.ensures.answered is, first_of (search rules, cc)))
