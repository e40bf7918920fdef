use Rattle.std.specs.Prelude.{nat_lt, slice_index_or, if◌then◌else◌}
use Rattle.std.proofs.Common.{◌≡◌, ◌∙◌, ap, sym, rules, List, [], ℤ, pos, get_or, w16, SFits, to_z, to_z-of_z}
use Rattle.std.proofs.lemmas.Bool.{lt-ltb, le-ltb, cond-true, cond-false}
use Rattle.reference_frames.proofs.KeptBlocks.{kept_first, kept_others, with_others, without_others}
use Rattle.reference_frames.proofs.kept_blocks.Blocks.dequantised.Goals as goal
use Rattle.reference_frames.proofs.kept_blocks.Blocks.dequantised.Goals.{then-k-lt16, else-k-lt16, then-self-k-gt1, else-self-k-gt1}

pub returns : goal.returns
returns c =
    let first : SFits w16 (get_or c.self.inside.firsts c.args.k (pos 0)) = search rules in
    let y_ac : SFits w16 c.self.inside.factors.y_ac = search rules in
    let uv_ac : SFits w16 c.self.inside.factors.uv_ac = search rules in
    let factor : to_z w16 c.if-k-lt16.factor-bits ≡ (if nat_lt c.args.k 16 then c.self.inside.factors.y_ac else c.self.inside.factors.uv_ac) = elim c.if-k-lt16.branch [
      | then-k-lt16 w ↦ simp to_z-of_z at w.factor-is ∙ sym (cond-true _ _ _ (lt-ltb c.args.k 16 w.if-k-lt16.true))
      | else-k-lt16 w ↦ simp to_z-of_z at w.factor-is ∙ sym (cond-false _ _ _ (le-ltb c.args.k 16 w.if-k-lt16.false))
    ] in
    let coefficients : List ℤ = slice_index_or c.self.inside.tokens.coefficients c.args.k [] in
    let first_is : ℤ = get_or c.self.inside.firsts c.args.k (pos 0) in
    let is : c.dequantise_others.result ≡ with_others coefficients first_is (to_z w16 c.if-self-k-gt1.ac-bits) = simp to_z-of_z at c.dequantise_others.ensures in
    elim c.if-self-k-gt1.branch [
      | then-self-k-gt1 w ↦ is ∙ ap (with_others coefficients first_is) (w.ac-is ∙ factor) ∙ sym (kept_others c.self.inside.tokens c.self.inside.firsts c.self.inside.factors c.args.k c.args.self.now c.requires c.self.view_is w.if-self-k-gt1.true)
      | else-self-k-gt1 w ↦ is ∙ ap (with_others coefficients first_is) w.ac-is ∙ without_others coefficients first_is ∙ sym (kept_first c.self.inside.tokens c.self.inside.firsts c.self.inside.factors c.args.k c.args.self.now c.requires c.self.view_is w.if-self-k-gt1.false)
    ]
