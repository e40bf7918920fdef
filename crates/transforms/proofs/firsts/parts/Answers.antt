use Rattle.std.proofs.Common.{◌∙◌, ap, refl, get_or, ℤ, pos, neg_ℤ, w16, SFits, rules}
use Rattle.std.proofs.lemmas.Int.{to_z-of_z}
use Rattle.vp8_tables.specs.Bounds.{clamped_sample}
use Rattle.transforms.proofs.MovedRows.{same_lanes, more_is, less_is, more_asks, less_asks}
use Rattle.transforms.proofs.firsts.parts.Goals as goal

pub overflow_cast-more : goal.overflow_cast-more
overflow_cast-more c = (more_asks _ c.eighth.ensures.within, (more_asks _ c.eighth-2.ensures.within, (more_asks _ c.eighth-3.ensures.within, (more_asks _ c.eighth-4.ensures.within, tt))))

pub overflow_cast-less : goal.overflow_cast-less
overflow_cast-less c = (less_asks _ c.eighth.ensures.within, (less_asks _ c.eighth-2.ensures.within, (less_asks _ c.eighth-3.ensures.within, (less_asks _ c.eighth-4.ensures.within, tt))))

pub returns-clause-more : goal.returns-clause-more
returns-clause-more c =
    let fits0 : SFits w16 (get_or c.args.firsts 0 (pos 0)) = search rules in
    let fits1 : SFits w16 (get_or c.args.firsts 1 (pos 0)) = search rules in
    let fits2 : SFits w16 (get_or c.args.firsts 2 (pos 0)) = search rules in
    let fits3 : SFits w16 (get_or c.args.firsts 3 (pos 0)) = search rules in
    let value0 = simp to_z-of_z at c.eighth.ensures.value in
    let value1 = simp to_z-of_z at c.eighth-2.ensures.value in
    let value2 = simp to_z-of_z at c.eighth-3.ensures.value in
    let value3 = simp to_z-of_z at c.eighth-4.ensures.value in
    same_lanes _ _ _ _ (more_is _ c.eighth.ensures.within ∙ ap clamped_sample value0) (same_lanes _ _ _ _ (more_is _ c.eighth-2.ensures.within ∙ ap clamped_sample value1) (same_lanes _ _ _ _ (more_is _ c.eighth-3.ensures.within ∙ ap clamped_sample value2) (same_lanes _ _ _ _ (more_is _ c.eighth-4.ensures.within ∙ ap clamped_sample value3) refl)))

pub returns-clause-less : goal.returns-clause-less
returns-clause-less c =
    let fits0 : SFits w16 (get_or c.args.firsts 0 (pos 0)) = search rules in
    let fits1 : SFits w16 (get_or c.args.firsts 1 (pos 0)) = search rules in
    let fits2 : SFits w16 (get_or c.args.firsts 2 (pos 0)) = search rules in
    let fits3 : SFits w16 (get_or c.args.firsts 3 (pos 0)) = search rules in
    let value0 = simp to_z-of_z at c.eighth.ensures.value in
    let value1 = simp to_z-of_z at c.eighth-2.ensures.value in
    let value2 = simp to_z-of_z at c.eighth-3.ensures.value in
    let value3 = simp to_z-of_z at c.eighth-4.ensures.value in
    same_lanes _ _ _ _ (less_is _ c.eighth.ensures.within ∙ ap (λ (z : ℤ). clamped_sample (neg_ℤ z)) value0) (same_lanes _ _ _ _ (less_is _ c.eighth-2.ensures.within ∙ ap (λ (z : ℤ). clamped_sample (neg_ℤ z)) value1) (same_lanes _ _ _ _ (less_is _ c.eighth-3.ensures.within ∙ ap (λ (z : ℤ). clamped_sample (neg_ℤ z)) value2) (same_lanes _ _ _ _ (less_is _ c.eighth-4.ensures.within ∙ ap (λ (z : ℤ). clamped_sample (neg_ℤ z)) value3) refl)))
