use Rattle.std.proofs.Common.{◌≡◌, Option, Some, sym, ap, ◌∙◌}
use Rattle.wokureti_c.specs.declared.engine.Engine.{Engine}
use Rattle.wokureti_c.proofs.exports.wk_frame.Goals as goal

pub returns-clause-served : goal.returns-clause-served
returns-clause-served c is = (c.deref_mut.result.now, _, sym c.in-Some.ensures.value ∙ ap (λ (engine : Engine). Some engine) (sym c.deref_mut.ensures.value), c.put.ensures, c.show-status.ensures.served is)

pub returns-clause-room : goal.returns-clause-room
returns-clause-room c is = (c.deref_mut.result.now, _, sym c.in-Some.ensures.value ∙ ap (λ (engine : Engine). Some engine) (sym c.deref_mut.ensures.value), c.put.ensures, c.show-status.ensures.room is)

pub returns-clause-refused : goal.returns-clause-refused
returns-clause-refused c is = (c.deref_mut.result.now, _, sym c.in-Some.ensures.value ∙ ap (λ (engine : Engine). Some engine) (sym c.deref_mut.ensures.value), c.put.ensures, c.show-status.ensures.refused is)
