use Rattle.std.proofs.Common.{◌≡◌, ◌∙◌, List, Some, ap, slice_get, subst, sym}
use Rattle.packet_edits.specs.Marks.{StoreValue}
use Rattle.edit_history.specs.declared.step.Step.{Step}
use Rattle.edit_history.specs.Places.{IsPlaceable, with_place}
use Rattle.edit_history.proofs.Ready.{got}
use Rattle.edit_history.proofs.Rooms.{front_placeable, next_place, placeable_at}
use Rattle.edit_history.proofs.places.make_places.Goals as goal

pub make_place-requires : goal.make_place-requires
make_place-requires c =
    let step : Step = c.index-steps-i.result in
    let here : slice_get c.args.steps.now c.loop-i.i ≡ Some step = got c.args.steps.now c.loop-i.i step c.loop-i-test.true c.index-steps-i.is in
    subst (λ (stores : List StoreValue). IsPlaceable step stores) (sym c.loop-i.invariant) (placeable_at c.args.steps.now c.loop-i.i step c.args.stores.now here c.requires)

pub drop_places-requires : goal.drop_places-requires
drop_places-requires c = (c.args.stores.now, front_placeable c.args.steps.now c.loop-i.i c.args.stores.now c.requires, c.in_default.ensures ∙ c.loop-i.invariant)

pub returns-in_default : goal.returns-in_default
returns-in_default c = c.drop_places.ensures c.args.stores.now (front_placeable c.args.steps.now c.loop-i.i c.args.stores.now c.requires) (c.in_default.ensures ∙ c.loop-i.invariant)

pub loop-i-preserved : goal.loop-i-preserved
loop-i-preserved c =
    let step : Step = c.index-steps-i.result in
    let here : slice_get c.args.steps.now c.loop-i.i ≡ Some step = got c.args.steps.now c.loop-i.i step c.loop-i-test.true c.index-steps-i.is in
    c.in-Ok.ensures ∙ ap (with_place step) c.loop-i.invariant ∙ next_place c.args.steps.now c.loop-i.i step c.args.stores.now here
