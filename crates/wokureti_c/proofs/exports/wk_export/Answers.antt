use Rattle.std.proofs.Common.{◌≡◌, Option, Some, sym, ap, ◌∙◌, rules}
use Rattle.wokureti_c.specs.declared.engine.Engine.{Engine}
use Rattle.wokureti_c.proofs.exports.wk_export.Goals as goal

pub returns-clause-exported : goal.returns-clause-exported
returns-clause-exported c is =
    (c.deref_mut.result.now, _, sym c.in-Some.ensures.value ∙ ap (λ (engine : Engine). Some engine) (sym c.deref_mut.ensures.value), c.put.ensures, (c.export-status.ensures.exported is, first_of (search rules, cc)))

pub returns-clause-refused : goal.returns-clause-refused
returns-clause-refused c is = (c.deref_mut.result.now, _, sym c.in-Some.ensures.value ∙ ap (λ (engine : Engine). Some engine) (sym c.deref_mut.ensures.value), c.put.ensures, c.export-status.ensures.refused is)

pub returns-clause-memory : goal.returns-clause-memory
returns-clause-memory c is = (c.deref_mut.result.now, _, sym c.in-Some.ensures.value ∙ ap (λ (engine : Engine). Some engine) (sym c.deref_mut.ensures.value), c.put.ensures, c.export-status.ensures.memory is)
