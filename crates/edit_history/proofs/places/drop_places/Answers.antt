use Rattle.std.proofs.Common.{◌≡◌, ℕ, ◌-◌, ◌∙◌, List, Some, ap, arith, slice_get, subst, sym, take}
use Rattle.packet_edits.specs.Marks.{StoreValue}
use Rattle.edit_history.specs.declared.step.Step.{Step}
use Rattle.edit_history.specs.Laws.{AreMarked}
use Rattle.edit_history.specs.Places.{IsDroppable, with_place, with_places, without_place}
use Rattle.edit_history.proofs.Ready.{got}
use Rattle.edit_history.proofs.Rooms.{back_place, droppable, last_place, placeable_at}
use Rattle.edit_history.proofs.places.drop_places.Goals as goal

pub drop_place-requires : goal.drop_place-requires
drop_place-requires c =
    let steps : List Step = c.args.steps.now in
    let i : ℕ = c.loop-i.i in
    let before : List StoreValue = c.requires.0 in
    let step : Step = c.index-steps-i.result in
    let here : slice_get steps (i - 1) ≡ Some step = got steps (i - 1) step (omega (arith, c.loop-i-test.true, c.loop-i.auto.i)) c.index-steps-i.is in
    let whole : c.loop-i.stores ≡ with_place step (with_places (take (i - 1) steps) before) = c.loop-i.invariant before c.requires.1 c.requires.2 ∙ last_place steps i step before (omega (arith, c.loop-i-test.true)) here in
    subst (λ (stores : List StoreValue). IsDroppable step stores) (sym whole) (droppable step (with_places (take (i - 1) steps) before) (placeable_at steps (i - 1) step before here c.requires.1))

pub loop-i-preserved : goal.loop-i-preserved
loop-i-preserved c = λ before may placed.
    let steps : List Step = c.args.steps.now in
    let i : ℕ = c.loop-i.i in
    let step : Step = c.index-steps-i.result in
    let here : slice_get steps (i - 1) ≡ Some step = got steps (i - 1) step (omega (arith, c.loop-i-test.true, c.loop-i.auto.i)) c.index-steps-i.is in
    let whole : c.loop-i.stores ≡ with_place step (with_places (take (i - 1) steps) before) = c.loop-i.invariant before may placed ∙ last_place steps i step before (omega (arith, c.loop-i-test.true)) here in
    c.drop_place.ensures ∙ ap (without_place step) whole
    ∙ back_place step (with_places (take (i - 1) steps) before) (placeable_at steps (i - 1) step before here may) (subst (λ (stores : List StoreValue). AreMarked stores) whole c.prove_marked.ensures)
