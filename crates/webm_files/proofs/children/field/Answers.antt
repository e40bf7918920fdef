use Rattle.std.proofs.Common.{◌∙◌, sym}
use Rattle.webm_files.proofs.ChildLemmas.{child_of-here, child_of-later, child_of-none}
use Rattle.webm_files.proofs.children.field.Goals as goal

pub returns-then-child-id : goal.returns-then-child-id
returns-then-child-id c =
    let met = c.in-Some.ensures in
    child_of-here _ _ _ _ _ met.has met.id c.if-child-id.true met.start met.end ∙ sym c.children.invariant

pub children-preserved : goal.children-preserved
children-preserved c =
    let met = c.in-Some.ensures in
    c.children.invariant ∙ child_of-later _ _ _ _ met.has met.id c.if-child-id.false met.end

pub returns : goal.returns
returns c = child_of-none _ _ c.in_default.ensures.none ∙ sym c.children.invariant
