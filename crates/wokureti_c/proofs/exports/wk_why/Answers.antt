use Rattle.std.proofs.Common.{◌≡◌, Option, Some, sym, ap, ◌∙◌, rules}
use Rattle.wokureti_c.specs.declared.engine.Engine.{Engine}
use Rattle.wokureti_c.proofs.exports.wk_why.Goals as goal

pub returns-clause-explained : goal.returns-clause-explained
returns-clause-explained c is =
    (c.deref_mut.result.now, _, sym c.in-Some.ensures.value ∙ ap (λ (engine : Engine). Some engine) (sym c.deref_mut.ensures.value), c.put.ensures, (c.explain-status.ensures.explained is, first_of (search rules, cc)))
