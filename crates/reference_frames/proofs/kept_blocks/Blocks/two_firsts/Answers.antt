use Rattle.std.specs.Prelude.{slice_index_or}
use Rattle.std.proofs.Common.{◌≡◌, ◌+◌, ◌≤◌, [], ◌∷◌, replicate, ℤ, pos, get_or, add-zero, w16, SFits, to_z, of_z, to_z-of_z, ap, sym, ◌∙◌, rules, arith}
use Rattle.transforms.proofs.MovedRows.{below_two}
use Rattle.reference_frames.proofs.KeptBlocks.{kept_first}
use Rattle.reference_frames.proofs.kept_blocks.Blocks.two_firsts.Goals as goal

pub returns : goal.returns
returns c =
    let fits0 : SFits w16 (get_or c.self.inside.firsts c.args.k (pos 0)) = search rules in
    let fits1 : SFits w16 (get_or c.self.inside.firsts (c.args.k + 1) (pos 0)) = search rules in
    let few0 : slice_index_or c.self.inside.tokens.ends c.args.k 0 ≤ 1 = omega (arith, c.max.ensures, c.if-max-gt1.false) in
    let at0 = kept_first c.self.inside.tokens c.self.inside.firsts c.self.inside.factors c.args.k c.args.self.now (omega (arith, c.requires)) c.self.view_is few0 in
    let few1 : slice_index_or c.self.inside.tokens.ends (c.args.k + 1) 0 ≤ 1 = omega (arith, c.max.ensures, c.if-max-gt1.false) in
    let at1 = kept_first c.self.inside.tokens c.self.inside.firsts c.self.inside.factors (c.args.k + 1) c.args.self.now (omega (arith, c.requires)) c.self.view_is few1 in
    let is0 = at0 ∙ sym (ap (λ (z : ℤ). z ∷ replicate 15 (pos 0)) (to_z-of_z fits0)) in
    let is1 = at1 ∙ sym (ap (λ (z : ℤ). z ∷ replicate 15 (pos 0)) (to_z-of_z fits1)) in
    below_two (λ n. slice_index_or c.args.self.now (c.args.k + n) [] ≡ slice_index_or (to_z w16 (of_z w16 (get_or c.self.inside.firsts c.args.k (pos 0))) ∷ to_z w16 (of_z w16 (get_or c.self.inside.firsts (c.args.k + 1) (pos 0))) ∷ []) n (pos 0) ∷ replicate 15 (pos 0)) (rw (add-zero c.args.k) is0) is1
