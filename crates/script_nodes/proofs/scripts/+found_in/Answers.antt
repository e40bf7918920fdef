use Rattle.std.specs.Prelude.{slice_index}
use Rattle.std.proofs.Common.{◌≡◌, ◌<◌, ℕ, lit<, refl, sym, ap, subst, arith}
use Rattle.script_nodes.specs.declared.nodes.Node.TheVariants.{Source, Trim, Splice, Crop, Fade, Parts}
use Rattle.script_nodes.specs.Lengths.{place_in}
use Rattle.script_nodes.proofs.Follows.{IsNode, given_long, given_first, source_inside, trim_inside, parts_frame_at, parts_inside, splice_inside, crop_inside, fade_inside, first_frame, source_frame, trim_frame, front_frame, back_frame, crop_frame, fade_frame, numbers_here, step_more, cut_allowed}
use Rattle.script_nodes.proofs.scripts.+found_in.Goals as goal

pub returns-then-clip-eq0-clause-value : goal.returns-then-clip-eq0-clause-value
returns-then-clip-eq0-clause-value t c =
    rw (c.new.ensures.source, c.new.ensures.frame, c.new.ensures.steps) (sym (first_frame c.requires.given.0 c.args.nodes.now c.args.lengths.now c.args.clip c.args.frame (Source 0) c.if-clip-eq0.true))

pub returns-then-clip-eq0-clause-inside : goal.returns-then-clip-eq0-clause-inside
returns-then-clip-eq0-clause-inside t c = λ counts given.
    rw (c.new.ensures.source, c.new.ensures.frame) (rw (c.if-clip-eq0.true, given_first counts c.args.nodes.now c.args.lengths.now given) at c.requires.inside)

pub returns-in-Source-clause-value : goal.returns-in-Source-clause-value
returns-in-Source-clause-value t c =
    let n : IsNode c.requires.given.0 c.args.nodes.now c.args.lengths.now c.args.clip _ (Source c.in-Source.number) = record { given = c.requires.given.1; some = omega arith; within = c.requires.clip; is = c.in-Source.is } in
    source_frame _ _ _ c.args.clip c.args.frame _ c.in-Source.number _ n (rw (c.new-in-Source.ensures.source, c.new-in-Source.ensures.frame, c.new-in-Source.ensures.steps) refl)

pub returns-in-Source-clause-inside : goal.returns-in-Source-clause-inside
returns-in-Source-clause-inside t c = λ counts given.
    let n : IsNode counts c.args.nodes.now c.args.lengths.now c.args.clip _ (Source c.in-Source.number) = record { given = given; some = omega arith; within = c.requires.clip; is = c.in-Source.is } in
    rw (c.new-in-Source.ensures.source, c.new-in-Source.ensures.frame) (source_inside _ _ _ c.args.clip c.args.frame _ c.in-Source.number n c.requires.inside)

pub found_in-requires : goal.found_in-requires
found_in-requires t c =
    let n : IsNode c.requires.given.0 c.args.nodes.now c.args.lengths.now c.args.clip _ (Trim c.in-Trim.clip c.in-Trim.first c.in-Trim.count) = record { given = c.requires.given.1; some = omega arith; within = c.requires.clip; is = c.in-Trim.is } in
    let inside = trim_inside _ _ _ c.args.clip c.args.frame _ c.in-Trim.clip c.in-Trim.first c.in-Trim.count n c.requires.inside in
    (omega (arith, inside.0), (c.requires.given, (omega (arith, inside.0, c.requires.clip), inside.1)))

pub offset_bounds-lengths-front : goal.offset_bounds-lengths-front
offset_bounds-lengths-front t c =
    let n : IsNode c.requires.given.0 c.args.nodes.now c.args.lengths.now c.args.clip _ (Splice c.in-Splice.front c.in-Splice.back) = record { given = c.requires.given.1; some = omega arith; within = c.requires.clip; is = c.in-Splice.is } in
    let inside = splice_inside _ _ _ c.args.clip c.args.frame _ c.in-Splice.front c.in-Splice.back n c.requires.inside in
    record { fits = omega (arith, inside.0, c.requires.clip, c.requires.given.1.script.few) }

pub bounds-lengths-front : goal.bounds-lengths-front
bounds-lengths-front t c =
    let n : IsNode c.requires.given.0 c.args.nodes.now c.args.lengths.now c.args.clip _ (Splice c.in-Splice.front c.in-Splice.back) = record { given = c.requires.given.1; some = omega arith; within = c.requires.clip; is = c.in-Splice.is } in
    let inside = splice_inside _ _ _ c.args.clip c.args.frame _ c.in-Splice.front c.in-Splice.back n c.requires.inside in
    omega (arith, inside.0, c.requires.clip, given_long c.requires.given.0 c.args.nodes.now c.args.lengths.now c.requires.given.1)

pub found_in-requires-then-frame-before : goal.found_in-requires-then-frame-before
found_in-requires-then-frame-before t c =
    let n : IsNode c.requires.given.0 c.args.nodes.now c.args.lengths.now c.args.clip _ (Splice c.in-Splice.front c.in-Splice.back) = record { given = c.requires.given.1; some = omega arith; within = c.requires.clip; is = c.in-Splice.is } in
    let inside = splice_inside _ _ _ c.args.clip c.args.frame _ c.in-Splice.front c.in-Splice.back n c.requires.inside in
    (omega (arith, inside.0), (c.requires.given, (omega (arith, inside.0, c.requires.clip), c.if-frame-before.true)))

pub found_in-requires-else-frame-before : goal.found_in-requires-else-frame-before
found_in-requires-else-frame-before t c =
    let n : IsNode c.requires.given.0 c.args.nodes.now c.args.lengths.now c.args.clip _ (Splice c.in-Splice.front c.in-Splice.back) = record { given = c.requires.given.1; some = omega arith; within = c.requires.clip; is = c.in-Splice.is } in
    let inside = splice_inside _ _ _ c.args.clip c.args.frame _ c.in-Splice.front c.in-Splice.back n c.requires.inside in
    (omega (arith, inside.1), (c.requires.given, (omega (arith, inside.1, c.requires.clip), inside.2 c.if-frame-before.false)))

pub found_in-found-requires : goal.found_in-found-requires
found_in-found-requires t c =
    let n : IsNode c.requires.given.0 c.args.nodes.now c.args.lengths.now c.args.clip _ (Crop c.in-Crop.clip c.in-Crop.area) = record { given = c.requires.given.1; some = omega arith; within = c.requires.clip; is = c.in-Crop.is } in
    let inside = crop_inside _ _ _ c.args.clip c.args.frame _ c.in-Crop.clip c.in-Crop.area n c.requires.inside in
    (omega (arith, inside.0), (c.requires.given, (omega (arith, inside.0, c.requires.clip), inside.1)))

pub push-requires : goal.push-requires
push-requires t c =
    let n : IsNode c.requires.given.0 c.args.nodes.now c.args.lengths.now c.args.clip _ (Crop c.in-Crop.clip c.in-Crop.area) = record { given = c.requires.given.1; some = omega arith; within = c.requires.clip; is = c.in-Crop.is } in
    let inside = crop_inside _ _ _ c.args.clip c.args.frame _ c.in-Crop.clip c.in-Crop.area n c.requires.inside in
    (lit< tt, omega (arith, inside.0, c.found_in-found.ensures.few, c.requires.clip, c.requires.given.1.script.few))

pub found_in-found-requires-in-Fade : goal.found_in-found-requires-in-Fade
found_in-found-requires-in-Fade t c =
    let n : IsNode c.requires.given.0 c.args.nodes.now c.args.lengths.now c.args.clip _ (Fade c.in-Fade.clip c.in-Fade.ramp) = record { given = c.requires.given.1; some = omega arith; within = c.requires.clip; is = c.in-Fade.is } in
    let inside = fade_inside _ _ _ c.args.clip c.args.frame _ c.in-Fade.clip c.in-Fade.ramp n c.requires.inside in
    (omega (arith, inside.0), (c.requires.given, (omega (arith, inside.0, c.requires.clip), inside.1)))

pub push-requires-in-Fade : goal.push-requires-in-Fade
push-requires-in-Fade t c =
    let n : IsNode c.requires.given.0 c.args.nodes.now c.args.lengths.now c.args.clip _ (Fade c.in-Fade.clip c.in-Fade.ramp) = record { given = c.requires.given.1; some = omega arith; within = c.requires.clip; is = c.in-Fade.is } in
    let inside = fade_inside _ _ _ c.args.clip c.args.frame _ c.in-Fade.clip c.in-Fade.ramp n c.requires.inside in
    (lit< tt, omega (arith, inside.0, c.found_in-found-in-Fade.ensures.few, c.requires.clip, c.requires.given.1.script.few))

pub returns-in-Trim-clause-value : goal.returns-in-Trim-clause-value
returns-in-Trim-clause-value t c =
    let n : IsNode c.requires.given.0 c.args.nodes.now c.args.lengths.now c.args.clip _ (Trim c.in-Trim.clip c.in-Trim.first c.in-Trim.count) = record { given = c.requires.given.1; some = omega arith; within = c.requires.clip; is = c.in-Trim.is } in
    trim_frame _ _ _ c.args.clip c.args.frame _ c.in-Trim.clip c.in-Trim.first c.in-Trim.count _ n c.found_in.ensures.value

pub returns-in-Trim-clause-few : goal.returns-in-Trim-clause-few
returns-in-Trim-clause-few t c =
    let n : IsNode c.requires.given.0 c.args.nodes.now c.args.lengths.now c.args.clip _ (Trim c.in-Trim.clip c.in-Trim.first c.in-Trim.count) = record { given = c.requires.given.1; some = omega arith; within = c.requires.clip; is = c.in-Trim.is } in
    let inside = trim_inside _ _ _ c.args.clip c.args.frame _ c.in-Trim.clip c.in-Trim.first c.in-Trim.count n c.requires.inside in
    omega (arith, inside.0, c.found_in.ensures.few)

pub returns-then-frame-before-clause-value : goal.returns-then-frame-before-clause-value
returns-then-frame-before-clause-value t c =
    let n : IsNode c.requires.given.0 c.args.nodes.now c.args.lengths.now c.args.clip _ (Splice c.in-Splice.front c.in-Splice.back) = record { given = c.requires.given.1; some = omega arith; within = c.requires.clip; is = c.in-Splice.is } in
    front_frame _ _ _ c.args.clip c.args.frame _ c.in-Splice.front c.in-Splice.back _ n c.if-frame-before.true c.found_in-then-frame-before.ensures.value

pub returns-then-frame-before-clause-few : goal.returns-then-frame-before-clause-few
returns-then-frame-before-clause-few t c =
    let n : IsNode c.requires.given.0 c.args.nodes.now c.args.lengths.now c.args.clip _ (Splice c.in-Splice.front c.in-Splice.back) = record { given = c.requires.given.1; some = omega arith; within = c.requires.clip; is = c.in-Splice.is } in
    let inside = splice_inside _ _ _ c.args.clip c.args.frame _ c.in-Splice.front c.in-Splice.back n c.requires.inside in
    omega (arith, inside.0, c.found_in-then-frame-before.ensures.few)

pub returns-else-frame-before-clause-value : goal.returns-else-frame-before-clause-value
returns-else-frame-before-clause-value t c =
    let n : IsNode c.requires.given.0 c.args.nodes.now c.args.lengths.now c.args.clip _ (Splice c.in-Splice.front c.in-Splice.back) = record { given = c.requires.given.1; some = omega arith; within = c.requires.clip; is = c.in-Splice.is } in
    back_frame _ _ _ c.args.clip c.args.frame _ c.in-Splice.front c.in-Splice.back _ n c.if-frame-before.false c.found_in-else-frame-before.ensures.value

pub returns-else-frame-before-clause-few : goal.returns-else-frame-before-clause-few
returns-else-frame-before-clause-few t c =
    let n : IsNode c.requires.given.0 c.args.nodes.now c.args.lengths.now c.args.clip _ (Splice c.in-Splice.front c.in-Splice.back) = record { given = c.requires.given.1; some = omega arith; within = c.requires.clip; is = c.in-Splice.is } in
    let inside = splice_inside _ _ _ c.args.clip c.args.frame _ c.in-Splice.front c.in-Splice.back n c.requires.inside in
    omega (arith, inside.1, c.found_in-else-frame-before.ensures.few)

pub returns-in-Crop-clause-value : goal.returns-in-Crop-clause-value
returns-in-Crop-clause-value t c =
    let n : IsNode c.requires.given.0 c.args.nodes.now c.args.lengths.now c.args.clip _ (Crop c.in-Crop.clip c.in-Crop.area) = record { given = c.requires.given.1; some = omega arith; within = c.requires.clip; is = c.in-Crop.is } in
    crop_frame _ _ _ c.args.clip c.args.frame _ c.in-Crop.clip c.in-Crop.area _ _ _ _ n c.push.ensures.items c.found_in-found.ensures.value

pub returns-in-Crop-clause-few : goal.returns-in-Crop-clause-few
returns-in-Crop-clause-few t c =
    let n : IsNode c.requires.given.0 c.args.nodes.now c.args.lengths.now c.args.clip _ (Crop c.in-Crop.clip c.in-Crop.area) = record { given = c.requires.given.1; some = omega arith; within = c.requires.clip; is = c.in-Crop.is } in
    let inside = crop_inside _ _ _ c.args.clip c.args.frame _ c.in-Crop.clip c.in-Crop.area n c.requires.inside in
    omega (arith, inside.0, c.found_in-found.ensures.few, c.push.ensures.len)

pub returns-in-Crop-clause-steps : goal.returns-in-Crop-clause-steps
returns-in-Crop-clause-steps t c =
    let n : IsNode c.requires.given.0 c.args.nodes.now c.args.lengths.now c.args.clip _ (Crop c.in-Crop.clip c.in-Crop.area) = record { given = c.requires.given.1; some = omega arith; within = c.requires.clip; is = c.in-Crop.is } in
    step_more _ _ _ c.found_in-found.ensures.steps (cut_allowed c.in-Crop.area (numbers_here _ _ _ c.args.clip _ (Crop c.in-Crop.clip c.in-Crop.area) n)) c.push.ensures.items

pub returns-in-Fade-clause-value : goal.returns-in-Fade-clause-value
returns-in-Fade-clause-value t c =
    let n : IsNode c.requires.given.0 c.args.nodes.now c.args.lengths.now c.args.clip _ (Fade c.in-Fade.clip c.in-Fade.ramp) = record { given = c.requires.given.1; some = omega arith; within = c.requires.clip; is = c.in-Fade.is } in
    fade_frame _ _ _ c.args.clip c.args.frame _ c.in-Fade.clip c.in-Fade.ramp c.weight.result _ _ _ _ n c.push-in-Fade.ensures.items c.weight.ensures.value c.found_in-found-in-Fade.ensures.value

pub returns-in-Fade-clause-few : goal.returns-in-Fade-clause-few
returns-in-Fade-clause-few t c =
    let n : IsNode c.requires.given.0 c.args.nodes.now c.args.lengths.now c.args.clip _ (Fade c.in-Fade.clip c.in-Fade.ramp) = record { given = c.requires.given.1; some = omega arith; within = c.requires.clip; is = c.in-Fade.is } in
    let inside = fade_inside _ _ _ c.args.clip c.args.frame _ c.in-Fade.clip c.in-Fade.ramp n c.requires.inside in
    omega (arith, inside.0, c.found_in-found-in-Fade.ensures.few, c.push-in-Fade.ensures.len)

pub returns-in-Fade-clause-steps : goal.returns-in-Fade-clause-steps
returns-in-Fade-clause-steps t c =
    step_more _ _ _ c.found_in-found-in-Fade.ensures.steps c.weight.ensures.small c.push-in-Fade.ensures.items

pub place-clip-requires-clause-few : goal.place-clip-requires-clause-few
place-clip-requires-clause-few t c =
    let n : IsNode c.requires.given.0 c.args.nodes.now c.args.lengths.now c.args.clip _ (Parts _) = record { given = c.requires.given.1; some = omega arith; within = c.requires.clip; is = c.in-Parts.is } in
    let at = parts_inside _ _ _ c.args.clip c.args.frame _ _ n c.requires.inside in
    at.few

pub place-clip-requires-clause-uses : goal.place-clip-requires-clause-uses
place-clip-requires-clause-uses t c =
    let n : IsNode c.requires.given.0 c.args.nodes.now c.args.lengths.now c.args.clip _ (Parts _) = record { given = c.requires.given.1; some = omega arith; within = c.requires.clip; is = c.in-Parts.is } in
    let at = parts_inside _ _ _ c.args.clip c.args.frame _ _ n c.requires.inside in
    rw c.in-Parts.parts-is at.uses

pub place-clip-requires-clause-within : goal.place-clip-requires-clause-within
place-clip-requires-clause-within t c =
    let n : IsNode c.requires.given.0 c.args.nodes.now c.args.lengths.now c.args.clip _ (Parts _) = record { given = c.requires.given.1; some = omega arith; within = c.requires.clip; is = c.in-Parts.is } in
    let at = parts_inside _ _ _ c.args.clip c.args.frame _ _ n c.requires.inside in
    rw c.in-Parts.parts-is at.within

pub place-clip-requires-clause-inside : goal.place-clip-requires-clause-inside
place-clip-requires-clause-inside t c =
    let n : IsNode c.requires.given.0 c.args.nodes.now c.args.lengths.now c.args.clip _ (Parts _) = record { given = c.requires.given.1; some = omega arith; within = c.requires.clip; is = c.in-Parts.is } in
    let at = parts_inside _ _ _ c.args.clip c.args.frame _ _ n c.requires.inside in
    rw c.in-Parts.parts-is at.inside

pub found_in-requires-in-Parts : goal.found_in-requires-in-Parts
found_in-requires-in-Parts t c =
    let n : IsNode c.requires.given.0 c.args.nodes.now c.args.lengths.now c.args.clip _ (Parts _) = record { given = c.requires.given.1; some = omega arith; within = c.requires.clip; is = c.in-Parts.is } in
    let at = parts_inside _ _ _ c.args.clip c.args.frame _ _ n c.requires.inside in
    let placed : c.place-clip.result ≡ place_in c.args.lengths.now c.in-Parts.parts c.args.frame = rw c.in-Parts.parts-is at c.place-clip.ensures in
    let clip : c.place-clip.result.0 ≡ (place_in c.args.lengths.now c.in-Parts.parts c.args.frame).0 = ap (λ (p : ℕ × ℕ). p.0) placed in
    (omega (arith, at.below, clip), (c.requires.given, (omega (arith, at.below, clip, c.requires.clip), subst (λ (p : ℕ × ℕ). p.1 < slice_index c.args.lengths.now p.0) (sym placed) at.frame)))

pub returns-in-Parts-clause-value : goal.returns-in-Parts-clause-value
returns-in-Parts-clause-value t c =
    let n : IsNode c.requires.given.0 c.args.nodes.now c.args.lengths.now c.args.clip _ (Parts _) = record { given = c.requires.given.1; some = omega arith; within = c.requires.clip; is = c.in-Parts.is } in
    let at = parts_inside _ _ _ c.args.clip c.args.frame _ _ n c.requires.inside in
    let placed : c.place-clip.result ≡ place_in c.args.lengths.now c.in-Parts.parts c.args.frame = rw c.in-Parts.parts-is at c.place-clip.ensures in
    parts_frame_at _ _ _ c.args.clip c.args.frame _ _ _ n at.inside (rw placed at c.found_in-in-Parts.ensures.value)

pub returns-in-Parts-clause-few : goal.returns-in-Parts-clause-few
returns-in-Parts-clause-few t c =
    let n : IsNode c.requires.given.0 c.args.nodes.now c.args.lengths.now c.args.clip _ (Parts _) = record { given = c.requires.given.1; some = omega arith; within = c.requires.clip; is = c.in-Parts.is } in
    let at = parts_inside _ _ _ c.args.clip c.args.frame _ _ n c.requires.inside in
    let placed : c.place-clip.result ≡ place_in c.args.lengths.now c.in-Parts.parts c.args.frame = rw c.in-Parts.parts-is at c.place-clip.ensures in
    let clip : c.place-clip.result.0 ≡ (place_in c.args.lengths.now c.in-Parts.parts c.args.frame).0 = ap (λ (p : ℕ × ℕ). p.0) placed in
    omega (arith, c.found_in-in-Parts.ensures.few, at.below, clip)
