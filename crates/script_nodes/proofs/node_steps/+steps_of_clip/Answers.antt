use Rattle.std.specs.Prelude.{slice_index}
use Rattle.std.proofs.Common.{◌≡◌, ◌<◌, ℕ, lit<, sym, ap, subst, arith}
use Rattle.script_nodes.specs.declared.nodes.Node.TheVariants.{Source, Trim, Splice, Crop, Fade, Parts}
use Rattle.script_nodes.specs.Lengths.{place_in}
use Rattle.script_nodes.proofs.Follows.{IsNode, cut_allowed, given_long, numbers_here, parts_inside, trim_inside, splice_inside, crop_inside, fade_inside}
use Rattle.script_nodes.proofs.NodeSteps.{back_steps, crop_steps, fade_steps, front_steps, node_step_more, parts_steps, source_steps, trim_steps}
use Rattle.script_nodes.proofs.node_steps.+steps_of_clip.Goals as goal

pub steps_of_clip-requires : goal.steps_of_clip-requires
steps_of_clip-requires t c =
    let n : IsNode c.requires.given.0 c.args.nodes.now c.args.lengths.now c.args.clip _ (Trim c.in-Trim.used c.in-Trim.first c.in-Trim.count) = record { given = c.requires.given.1; some = omega arith; within = c.requires.clip.0; is = c.in-Trim.is } in
    let inside = trim_inside _ _ _ c.args.clip c.args.frame _ c.in-Trim.used c.in-Trim.first c.in-Trim.count n c.requires.inside in
    (omega (arith, c.requires.clip.1), (c.requires.given, ((omega (arith, inside.0, c.requires.clip.0), omega (arith, inside.0, c.requires.clip.1)), inside.1)))

pub offset_bounds-lengths-front : goal.offset_bounds-lengths-front
offset_bounds-lengths-front t c =
    let n : IsNode c.requires.given.0 c.args.nodes.now c.args.lengths.now c.args.clip _ (Splice c.in-Splice.front c.in-Splice.back) = record { given = c.requires.given.1; some = omega arith; within = c.requires.clip.0; is = c.in-Splice.is } in
    let inside = splice_inside _ _ _ c.args.clip c.args.frame _ c.in-Splice.front c.in-Splice.back n c.requires.inside in
    record { fits = omega (arith, inside.0, c.requires.clip.0, c.requires.given.1.script.few) }

pub bounds-lengths-front : goal.bounds-lengths-front
bounds-lengths-front t c =
    let n : IsNode c.requires.given.0 c.args.nodes.now c.args.lengths.now c.args.clip _ (Splice c.in-Splice.front c.in-Splice.back) = record { given = c.requires.given.1; some = omega arith; within = c.requires.clip.0; is = c.in-Splice.is } in
    let inside = splice_inside _ _ _ c.args.clip c.args.frame _ c.in-Splice.front c.in-Splice.back n c.requires.inside in
    omega (arith, inside.0, c.requires.clip.0, given_long c.requires.given.0 c.args.nodes.now c.args.lengths.now c.requires.given.1)

pub steps_of_clip-requires-then-frame-before : goal.steps_of_clip-requires-then-frame-before
steps_of_clip-requires-then-frame-before t c =
    let n : IsNode c.requires.given.0 c.args.nodes.now c.args.lengths.now c.args.clip _ (Splice c.in-Splice.front c.in-Splice.back) = record { given = c.requires.given.1; some = omega arith; within = c.requires.clip.0; is = c.in-Splice.is } in
    let inside = splice_inside _ _ _ c.args.clip c.args.frame _ c.in-Splice.front c.in-Splice.back n c.requires.inside in
    (omega (arith, c.requires.clip.1), (c.requires.given, ((omega (arith, inside.0, c.requires.clip.0), omega (arith, inside.0, c.requires.clip.1)), c.if-frame-before.true)))

pub steps_of_clip-requires-else-frame-before : goal.steps_of_clip-requires-else-frame-before
steps_of_clip-requires-else-frame-before t c =
    let n : IsNode c.requires.given.0 c.args.nodes.now c.args.lengths.now c.args.clip _ (Splice c.in-Splice.front c.in-Splice.back) = record { given = c.requires.given.1; some = omega arith; within = c.requires.clip.0; is = c.in-Splice.is } in
    let inside = splice_inside _ _ _ c.args.clip c.args.frame _ c.in-Splice.front c.in-Splice.back n c.requires.inside in
    (omega (arith, c.requires.clip.1), (c.requires.given, ((omega (arith, inside.1, c.requires.clip.0), omega (arith, inside.1, c.requires.clip.1)), inside.2 c.if-frame-before.false)))

pub steps_of_clip-found-requires : goal.steps_of_clip-found-requires
steps_of_clip-found-requires t c =
    let n : IsNode c.requires.given.0 c.args.nodes.now c.args.lengths.now c.args.clip _ (Crop c.in-Crop.used c.in-Crop.area) = record { given = c.requires.given.1; some = omega arith; within = c.requires.clip.0; is = c.in-Crop.is } in
    let inside = crop_inside _ _ _ c.args.clip c.args.frame _ c.in-Crop.used c.in-Crop.area n c.requires.inside in
    (omega (arith, c.requires.clip.1), (c.requires.given, ((omega (arith, inside.0, c.requires.clip.0), omega (arith, inside.0, c.requires.clip.1)), inside.1)))

pub push-requires : goal.push-requires
push-requires t c =
    let n : IsNode c.requires.given.0 c.args.nodes.now c.args.lengths.now c.args.clip _ (Crop c.in-Crop.used c.in-Crop.area) = record { given = c.requires.given.1; some = omega arith; within = c.requires.clip.0; is = c.in-Crop.is } in
    let inside = crop_inside _ _ _ c.args.clip c.args.frame _ c.in-Crop.used c.in-Crop.area n c.requires.inside in
    (lit< tt, omega (arith, inside.0, c.steps_of_clip-found.ensures.few, c.requires.clip.0, c.requires.given.1.script.few))

pub steps_of_clip-found-requires-in-Fade : goal.steps_of_clip-found-requires-in-Fade
steps_of_clip-found-requires-in-Fade t c =
    let n : IsNode c.requires.given.0 c.args.nodes.now c.args.lengths.now c.args.clip _ (Fade c.in-Fade.used c.in-Fade.ramp) = record { given = c.requires.given.1; some = omega arith; within = c.requires.clip.0; is = c.in-Fade.is } in
    let inside = fade_inside _ _ _ c.args.clip c.args.frame _ c.in-Fade.used c.in-Fade.ramp n c.requires.inside in
    (omega (arith, c.requires.clip.1), (c.requires.given, ((omega (arith, inside.0, c.requires.clip.0), omega (arith, inside.0, c.requires.clip.1)), inside.1)))

pub push-requires-in-Fade : goal.push-requires-in-Fade
push-requires-in-Fade t c =
    let n : IsNode c.requires.given.0 c.args.nodes.now c.args.lengths.now c.args.clip _ (Fade c.in-Fade.used c.in-Fade.ramp) = record { given = c.requires.given.1; some = omega arith; within = c.requires.clip.0; is = c.in-Fade.is } in
    let inside = fade_inside _ _ _ c.args.clip c.args.frame _ c.in-Fade.used c.in-Fade.ramp n c.requires.inside in
    (lit< tt, omega (arith, inside.0, c.steps_of_clip-found-in-Fade.ensures.few, c.requires.clip.0, c.requires.given.1.script.few))

pub returns-in-Trim-clause-few : goal.returns-in-Trim-clause-few
returns-in-Trim-clause-few t c =
    let n : IsNode c.requires.given.0 c.args.nodes.now c.args.lengths.now c.args.clip _ (Trim c.in-Trim.used c.in-Trim.first c.in-Trim.count) = record { given = c.requires.given.1; some = omega arith; within = c.requires.clip.0; is = c.in-Trim.is } in
    let inside = trim_inside _ _ _ c.args.clip c.args.frame _ c.in-Trim.used c.in-Trim.first c.in-Trim.count n c.requires.inside in
    omega (arith, inside.0, c.steps_of_clip.ensures.few)

pub returns-then-frame-before-clause-few : goal.returns-then-frame-before-clause-few
returns-then-frame-before-clause-few t c =
    let n : IsNode c.requires.given.0 c.args.nodes.now c.args.lengths.now c.args.clip _ (Splice c.in-Splice.front c.in-Splice.back) = record { given = c.requires.given.1; some = omega arith; within = c.requires.clip.0; is = c.in-Splice.is } in
    let inside = splice_inside _ _ _ c.args.clip c.args.frame _ c.in-Splice.front c.in-Splice.back n c.requires.inside in
    omega (arith, inside.0, c.steps_of_clip-then-frame-before.ensures.few)

pub returns-else-frame-before-clause-few : goal.returns-else-frame-before-clause-few
returns-else-frame-before-clause-few t c =
    let n : IsNode c.requires.given.0 c.args.nodes.now c.args.lengths.now c.args.clip _ (Splice c.in-Splice.front c.in-Splice.back) = record { given = c.requires.given.1; some = omega arith; within = c.requires.clip.0; is = c.in-Splice.is } in
    let inside = splice_inside _ _ _ c.args.clip c.args.frame _ c.in-Splice.front c.in-Splice.back n c.requires.inside in
    omega (arith, inside.1, c.steps_of_clip-else-frame-before.ensures.few)

pub returns-in-Crop-clause-few : goal.returns-in-Crop-clause-few
returns-in-Crop-clause-few t c =
    let n : IsNode c.requires.given.0 c.args.nodes.now c.args.lengths.now c.args.clip _ (Crop c.in-Crop.used c.in-Crop.area) = record { given = c.requires.given.1; some = omega arith; within = c.requires.clip.0; is = c.in-Crop.is } in
    let inside = crop_inside _ _ _ c.args.clip c.args.frame _ c.in-Crop.used c.in-Crop.area n c.requires.inside in
    omega (arith, inside.0, c.steps_of_clip-found.ensures.few, c.push.ensures.len)

pub returns-in-Fade-clause-few : goal.returns-in-Fade-clause-few
returns-in-Fade-clause-few t c =
    let n : IsNode c.requires.given.0 c.args.nodes.now c.args.lengths.now c.args.clip _ (Fade c.in-Fade.used c.in-Fade.ramp) = record { given = c.requires.given.1; some = omega arith; within = c.requires.clip.0; is = c.in-Fade.is } in
    let inside = fade_inside _ _ _ c.args.clip c.args.frame _ c.in-Fade.used c.in-Fade.ramp n c.requires.inside in
    omega (arith, inside.0, c.steps_of_clip-found-in-Fade.ensures.few, c.push-in-Fade.ensures.len)

pub returns-in-Crop-clause-allowed : goal.returns-in-Crop-clause-allowed
returns-in-Crop-clause-allowed t c =
    let n : IsNode c.requires.given.0 c.args.nodes.now c.args.lengths.now c.args.clip _ (Crop c.in-Crop.used c.in-Crop.area) = record { given = c.requires.given.1; some = omega arith; within = c.requires.clip.0; is = c.in-Crop.is } in
    node_step_more _ _ _ c.steps_of_clip-found.ensures.allowed (cut_allowed c.in-Crop.area (numbers_here _ _ _ c.args.clip _ (Crop c.in-Crop.used c.in-Crop.area) n)) c.push.ensures.items

pub returns-in-Fade-clause-allowed : goal.returns-in-Fade-clause-allowed
returns-in-Fade-clause-allowed t c =
    node_step_more _ _ _ c.steps_of_clip-found-in-Fade.ensures.allowed c.weight.ensures.small c.push-in-Fade.ensures.items

pub place-used-requires-clause-few : goal.place-used-requires-clause-few
place-used-requires-clause-few t c =
    let n : IsNode c.requires.given.0 c.args.nodes.now c.args.lengths.now c.args.clip _ (Parts c.in-Parts.parts) = record { given = c.requires.given.1; some = omega arith; within = c.requires.clip.0; is = c.in-Parts.is } in
    let at = parts_inside _ _ _ c.args.clip c.args.frame _ _ n c.requires.inside in
    at.few

pub place-used-requires-clause-uses : goal.place-used-requires-clause-uses
place-used-requires-clause-uses t c =
    let n : IsNode c.requires.given.0 c.args.nodes.now c.args.lengths.now c.args.clip _ (Parts c.in-Parts.parts) = record { given = c.requires.given.1; some = omega arith; within = c.requires.clip.0; is = c.in-Parts.is } in
    let at = parts_inside _ _ _ c.args.clip c.args.frame _ _ n c.requires.inside in
    rw c.in-Parts.parts-is at.uses

pub place-used-requires-clause-within : goal.place-used-requires-clause-within
place-used-requires-clause-within t c =
    let n : IsNode c.requires.given.0 c.args.nodes.now c.args.lengths.now c.args.clip _ (Parts c.in-Parts.parts) = record { given = c.requires.given.1; some = omega arith; within = c.requires.clip.0; is = c.in-Parts.is } in
    let at = parts_inside _ _ _ c.args.clip c.args.frame _ _ n c.requires.inside in
    rw c.in-Parts.parts-is at.within

pub place-used-requires-clause-inside : goal.place-used-requires-clause-inside
place-used-requires-clause-inside t c =
    let n : IsNode c.requires.given.0 c.args.nodes.now c.args.lengths.now c.args.clip _ (Parts c.in-Parts.parts) = record { given = c.requires.given.1; some = omega arith; within = c.requires.clip.0; is = c.in-Parts.is } in
    let at = parts_inside _ _ _ c.args.clip c.args.frame _ _ n c.requires.inside in
    rw c.in-Parts.parts-is at.inside

pub steps_of_clip-requires-in-Parts : goal.steps_of_clip-requires-in-Parts
steps_of_clip-requires-in-Parts t c =
    let n : IsNode c.requires.given.0 c.args.nodes.now c.args.lengths.now c.args.clip _ (Parts c.in-Parts.parts) = record { given = c.requires.given.1; some = omega arith; within = c.requires.clip.0; is = c.in-Parts.is } in
    let at = parts_inside _ _ _ c.args.clip c.args.frame _ _ n c.requires.inside in
    let placed : c.place-used.result ≡ place_in c.args.lengths.now c.in-Parts.parts c.args.frame = rw c.in-Parts.parts-is at c.place-used.ensures in
    let clip : c.place-used.result.0 ≡ (place_in c.args.lengths.now c.in-Parts.parts c.args.frame).0 = ap (λ (p : ℕ × ℕ). p.0) placed in
    (omega (arith, c.requires.clip.1), (c.requires.given, ((omega (arith, at.below, clip, c.requires.clip.0), omega (arith, at.below, clip, c.requires.clip.1)), subst (λ (p : ℕ × ℕ). p.1 < slice_index c.args.lengths.now p.0) (sym placed) at.frame)))

pub returns-in-Source-clause-value : goal.returns-in-Source-clause-value
returns-in-Source-clause-value t c =
    let n : IsNode c.requires.given.0 c.args.nodes.now c.args.lengths.now c.args.clip _ (Source c.in-Source.number) = record { given = c.requires.given.1; some = omega arith; within = c.requires.clip.0; is = c.in-Source.is } in
    source_steps _ _ _ c.args.depth c.args.clip c.args.frame _ c.in-Source.number _ n c.requires.clip.1 c.new-in-Source.ensures

pub returns-in-Trim-clause-value : goal.returns-in-Trim-clause-value
returns-in-Trim-clause-value t c =
    let n : IsNode c.requires.given.0 c.args.nodes.now c.args.lengths.now c.args.clip _ (Trim c.in-Trim.used c.in-Trim.first c.in-Trim.count) = record { given = c.requires.given.1; some = omega arith; within = c.requires.clip.0; is = c.in-Trim.is } in
    trim_steps _ _ _ c.args.depth c.args.clip c.args.frame _ c.in-Trim.used c.in-Trim.first c.in-Trim.count _ n c.requires.clip.1 c.steps_of_clip.ensures.value

pub returns-then-frame-before-clause-value : goal.returns-then-frame-before-clause-value
returns-then-frame-before-clause-value t c =
    let n : IsNode c.requires.given.0 c.args.nodes.now c.args.lengths.now c.args.clip _ (Splice c.in-Splice.front c.in-Splice.back) = record { given = c.requires.given.1; some = omega arith; within = c.requires.clip.0; is = c.in-Splice.is } in
    front_steps _ _ _ c.args.depth c.args.clip c.args.frame _ c.in-Splice.front c.in-Splice.back _ n c.requires.clip.1 c.if-frame-before.true c.steps_of_clip-then-frame-before.ensures.value

pub returns-else-frame-before-clause-value : goal.returns-else-frame-before-clause-value
returns-else-frame-before-clause-value t c =
    let n : IsNode c.requires.given.0 c.args.nodes.now c.args.lengths.now c.args.clip _ (Splice c.in-Splice.front c.in-Splice.back) = record { given = c.requires.given.1; some = omega arith; within = c.requires.clip.0; is = c.in-Splice.is } in
    back_steps _ _ _ c.args.depth c.args.clip c.args.frame _ c.in-Splice.front c.in-Splice.back _ n c.requires.clip.1 c.if-frame-before.false c.steps_of_clip-else-frame-before.ensures.value

pub returns-in-Crop-clause-value : goal.returns-in-Crop-clause-value
returns-in-Crop-clause-value t c =
    let n : IsNode c.requires.given.0 c.args.nodes.now c.args.lengths.now c.args.clip _ (Crop c.in-Crop.used c.in-Crop.area) = record { given = c.requires.given.1; some = omega arith; within = c.requires.clip.0; is = c.in-Crop.is } in
    crop_steps _ _ _ c.args.depth c.args.clip c.args.frame _ c.in-Crop.used c.in-Crop.area _ _ n c.requires.clip.1 c.push.ensures.items c.steps_of_clip-found.ensures.value

pub returns-in-Fade-clause-value : goal.returns-in-Fade-clause-value
returns-in-Fade-clause-value t c =
    let n : IsNode c.requires.given.0 c.args.nodes.now c.args.lengths.now c.args.clip _ (Fade c.in-Fade.used c.in-Fade.ramp) = record { given = c.requires.given.1; some = omega arith; within = c.requires.clip.0; is = c.in-Fade.is } in
    fade_steps _ _ _ c.args.depth c.args.clip c.args.frame _ c.in-Fade.used c.in-Fade.ramp c.weight.result _ _ n c.requires.clip.1 c.push-in-Fade.ensures.items c.weight.ensures.value c.steps_of_clip-found-in-Fade.ensures.value

pub returns-in-Parts-clause-value : goal.returns-in-Parts-clause-value
returns-in-Parts-clause-value t c =
    let n : IsNode c.requires.given.0 c.args.nodes.now c.args.lengths.now c.args.clip _ (Parts c.in-Parts.parts) = record { given = c.requires.given.1; some = omega arith; within = c.requires.clip.0; is = c.in-Parts.is } in
    let at = parts_inside _ _ _ c.args.clip c.args.frame _ _ n c.requires.inside in
    let placed : c.place-used.result ≡ place_in c.args.lengths.now c.in-Parts.parts c.args.frame = rw c.in-Parts.parts-is at c.place-used.ensures in
    parts_steps _ _ _ c.args.depth c.args.clip c.args.frame _ c.in-Parts.parts c.place-used.result _ n c.requires.clip.1 at.inside placed c.steps_of_clip-in-Parts.ensures.value

pub returns-in-Parts-clause-few : goal.returns-in-Parts-clause-few
returns-in-Parts-clause-few t c =
    let n : IsNode c.requires.given.0 c.args.nodes.now c.args.lengths.now c.args.clip _ (Parts c.in-Parts.parts) = record { given = c.requires.given.1; some = omega arith; within = c.requires.clip.0; is = c.in-Parts.is } in
    let at = parts_inside _ _ _ c.args.clip c.args.frame _ _ n c.requires.inside in
    let placed : c.place-used.result ≡ place_in c.args.lengths.now c.in-Parts.parts c.args.frame = rw c.in-Parts.parts-is at c.place-used.ensures in
    let clip : c.place-used.result.0 ≡ (place_in c.args.lengths.now c.in-Parts.parts c.args.frame).0 = ap (λ (p : ℕ × ℕ). p.0) placed in
    omega (arith, c.steps_of_clip-in-Parts.ensures.few, at.below, clip)
