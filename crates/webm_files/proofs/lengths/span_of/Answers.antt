use Rattle.std.proofs.Common.{◌∙◌, ap, subst, arith, ◌↔◌, IsTrue}
use Rattle.std.proofs.lemmas.List.{take_rest}
use Rattle.webm_files.specs.Elements.{IsSized, content_size}
use Rattle.webm_files.proofs.LengthSteps.{span_of-other, span_of-sized, span_of-unsized}
use Rattle.webm_files.proofs.lengths.span_of.Goals as goal

pub returns-then-element-level : goal.returns-then-element-level
returns-then-element-level c = span_of-other c.args.bytes.now c.args.level c.args.element.now c.if-element-level.true

pub returns-then-not-head : goal.returns-then-not-head
returns-then-not-head c =
    let file = c.args.bytes.now in
    span_of-unsized file c.args.level c.args.element.now c.in_ok-head.head.is_sized (subst (λ text. IsTrue c.in_ok-head.head.is_sized ↔ IsSized text) (take_rest file c.args.element.now.place) c.in_ok-head.ensures.sized) c.if-not-head.true

pub overflow_add-result : goal.overflow_add-result
overflow_add-result c = omega (arith, c.requires.start, c.in_ok-head.ensures.most)

pub returns : goal.returns
returns c =
    let file = c.args.bytes.now in
    let text = take_rest file c.args.element.now.place in
    span_of-sized file c.args.level c.args.element.now c.in_ok-head.head.size c.in_ok-head.head.is_sized c.if-element-level.false (c.in_ok-head.ensures.size ∙ ap content_size text)
    (subst (λ text. IsTrue c.in_ok-head.head.is_sized ↔ IsSized text) text c.in_ok-head.ensures.sized) c.if-not-head.false
