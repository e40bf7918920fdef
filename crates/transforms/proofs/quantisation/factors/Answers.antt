use Rattle.std.proofs.Common.{◌*◌, ◌/◌, ◌∙◌, ℕ, ap, refl, arith, pos, w8, w16, SFits, rules}
use Rattle.std.specs.Prelude.{min, max}
use Rattle.std.proofs.lemmas.Int.{to_z_pos, to_z-of_z}
use Rattle.transforms.specs.Factors.{factors_of, factor}
use Rattle.vp8_tables.specs.declared.quantizers.TheConstants.{DC_QUANTIZERS, AC_QUANTIZERS}
use Rattle.transforms.proofs.quantisation.factors.Goals as goal

pub returns : goal.returns
unfolding factors_of
returns c =
    let changes = c.args.header.now.quantizers in
    let fits0 : SFits w8 changes.y_dc_delta = search rules in
    let fits1 : SFits w8 changes.y2_dc_delta = search rules in
    let fits2 : SFits w8 changes.y2_ac_delta = search rules in
    let fits3 : SFits w8 changes.uv_dc_delta = search rules in
    let fits4 : SFits w8 changes.uv_ac_delta = search rules in
    let index = c.segment_index-index.ensures.value in
    let y_dc = (simp to_z-of_z at c.dc_factor.ensures.value) ∙ ap (λ (i : ℕ). factor DC_QUANTIZERS i changes.y_dc_delta) index in
    let y_ac = c.ac_factor.ensures.value ∙ ap (λ (i : ℕ). factor AC_QUANTIZERS i (pos 0)) index in
    let y2_dc = (simp to_z-of_z at c.dc_factor-2.ensures.value) ∙ ap (λ (i : ℕ). factor DC_QUANTIZERS i changes.y2_dc_delta) index in
    let y2_ac = (simp to_z-of_z at c.ac_factor-2.ensures.value) ∙ ap (λ (i : ℕ). factor AC_QUANTIZERS i changes.y2_ac_delta) index in
    let uv_dc = (simp to_z-of_z at c.dc_factor-3.ensures.value) ∙ ap (λ (i : ℕ). factor DC_QUANTIZERS i changes.uv_dc_delta) index in
    let uv_ac = (simp to_z-of_z at c.ac_factor-3.ensures.value) ∙ ap (λ (i : ℕ). factor AC_QUANTIZERS i changes.uv_ac_delta) index in
    let is0 = to_z_pos w16 c.dc_factor.result (omega (arith, c.dc_factor.ensures.small)) ∙ ap pos y_dc in
    let is1 = to_z_pos w16 c.ac_factor.result (omega (arith, c.ac_factor.ensures.small)) ∙ ap pos y_ac in
    let is2 = to_z_pos w16 (c.dc_factor-2.result * 2) (omega (arith, c.dc_factor-2.ensures.small)) ∙ ap (λ (n : ℕ). pos (n * 2)) y2_dc in
    let is3 = to_z_pos w16 c.max.result (omega (arith, c.ac_factor-2.ensures.small, c.max.ensures)) ∙ ap pos (c.max.ensures ∙ ap (λ (n : ℕ). max (n * 155 / 100) 8) y2_ac) in
    let is4 = to_z_pos w16 c.min.result (omega (arith, c.min.ensures)) ∙ ap pos (c.min.ensures ∙ ap (λ (n : ℕ). min n 132) uv_dc) in
    let is5 = to_z_pos w16 c.ac_factor-3.result (omega (arith, c.ac_factor-3.ensures.small)) ∙ ap pos uv_ac in
    rw (is0, is1, is2, is3, is4, is5) refl
