use Rattle.std.proofs.Common.{◌≡◌, Option, Some, sym, ap, ◌∙◌, rules}
use Rattle.wokureti_c.specs.declared.engine.Engine.{Engine}
use Rattle.wokureti_c.proofs.exports.wk_save_source.Goals as goal

pub returns-clause-saved : goal.returns-clause-saved
returns-clause-saved c is =
    (c.deref_mut.result.now, _, sym c.in-Some.ensures.value ∙ ap (λ (engine : Engine). Some engine) (sym c.deref_mut.ensures.value), c.put.ensures, (c.save_source-status.ensures.saved is, first_of (search rules, cc)))

pub returns-clause-absent : goal.returns-clause-absent
returns-clause-absent c is = (c.deref_mut.result.now, _, sym c.in-Some.ensures.value ∙ ap (λ (engine : Engine). Some engine) (sym c.deref_mut.ensures.value), c.put.ensures, c.save_source-status.ensures.absent is)
