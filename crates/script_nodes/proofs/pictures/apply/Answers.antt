use Rattle.std.specs.Prelude.{is_some}
use Rattle.std.proofs.Common.{◌≡◌, true, not, ap, ◌∙◌}
use Rattle.script_nodes.specs.Shown.{steps_size}
use Rattle.script_nodes.proofs.Applied.{none_shown, size_answered, shown_answered, made_first, made_next, next_size}
use Rattle.script_nodes.proofs.pictures.apply.Goals as goal

pub returns-then-is_err-clause-refused : goal.returns-then-is_err-clause-refused
returns-then-is_err-clause-refused c =
    none_shown _ (shown_answered c.size.result c.args.trace.now c.args.picture.now c.width.result c.height.result c.size.ensures c.width.ensures.value c.height.ensures.value ∙ c.is_err.ensures.negation ∙ ap not c.if-is_err.true)

pub returns-in_default-clause-refused : goal.returns-in_default-clause-refused
returns-in_default-clause-refused c = shown_answered c.size.result c.args.trace.now c.args.picture.now c.width.result c.height.result c.size.ensures c.width.ensures.value c.height.ensures.value ∙ c.is_err.ensures.negation ∙ ap not c.if-is_err.false

pub loop-step-init : goal.loop-step-init
loop-step-init c =
    let some : is_some (steps_size c.args.trace.now (c.args.picture.now.width, c.args.picture.now.height)) ≡ true = size_answered c.size.result c.args.trace.now c.args.picture.now c.width.result c.height.result c.size.ensures c.width.ensures.value c.height.ensures.value ∙ c.is_err.ensures.negation ∙ ap not c.if-is_err.false in
    made_first c.steps-step-items.result.now c.args.picture.now c.in-Ok.made c.in-Ok.ensures
    (rw c.steps-step-items.ensures.value some)

pub stepped-requires-clause-inside : goal.stepped-requires-clause-inside
stepped-requires-clause-inside c = next_size c.steps-step-items.result.now c.loop-step.step-index c.args.picture.now c.loop-step.made _ c.loop-step.invariant c.loop-step-test.true

pub returns-in_default-stepped-clause-refused : goal.returns-in_default-stepped-clause-refused
returns-in_default-stepped-clause-refused c = shown_answered c.size.result c.args.trace.now c.args.picture.now c.width.result c.height.result c.size.ensures c.width.ensures.value c.height.ensures.value ∙ c.is_err.ensures.negation ∙ ap not c.if-is_err.false

pub loop-step-preserved : goal.loop-step-preserved
loop-step-preserved c = made_next c.steps-step-items.result.now c.loop-step.step-index c.args.picture.now c.loop-step.made c.in-Ok-stepped.next _ c.loop-step.invariant c.loop-step-test.true c.in-Ok-stepped.ensures
