use Rattle.std.specs.Prelude.{slice_index_or}
use Rattle.std.proofs.Common.{◌≡◌, ◌∙◌, ap, sym, rules, List, [], ◌∷◌, replicate, ℤ, pos, get_or, subst, w16, SFits, to_z, to_z-of_z}
use Rattle.transforms.specs.Residuals.{IsAdded}
use Rattle.transforms.specs.Transforms.{inverse_dct}
use Rattle.reference_frames.proofs.Added.{none_added}
use Rattle.reference_frames.proofs.KeptBlocks.{kept_first}
use Rattle.reference_frames.proofs.kept_blocks.Blocks.add.Goals as goal

pub returns-then-self-k-gt1 : goal.returns-then-self-k-gt1
returns-then-self-k-gt1 c = subst (λ (xs : List ℤ). IsAdded (inverse_dct xs) 4 c.args.stride c.args.samples.now c.dct_add.new.samples) c.dequantised.ensures c.dct_add.ensures

pub returns-then-first-ne0 : goal.returns-then-first-ne0
returns-then-first-ne0 c =
    let first : SFits w16 (get_or c.self.inside.firsts c.args.k (pos 0)) = search rules in
    let added = simp to_z-of_z at c.dct_add_first.ensures in
    let same = kept_first c.self.inside.tokens c.self.inside.firsts c.self.inside.factors c.args.k c.args.self.now c.requires.block c.self.view_is c.if-self-k-gt1.false in
    subst (λ (xs : List ℤ). IsAdded (inverse_dct xs) 4 c.args.stride c.args.samples.now c.dct_add_first.new.samples) (sym same) added

pub returns-else-first-ne0 : goal.returns-else-first-ne0
returns-else-first-ne0 c =
    let first : SFits w16 (get_or c.self.inside.firsts c.args.k (pos 0)) = search rules in
    let zero_is : get_or c.self.inside.firsts c.args.k (pos 0) ≡ pos 0 = sym (to_z-of_z first) ∙ ap (λ n. to_z w16 n) c.if-first-ne0.false in
    let same = kept_first c.self.inside.tokens c.self.inside.firsts c.self.inside.factors c.args.k c.args.self.now c.requires.block c.self.view_is c.if-self-k-gt1.false in
    none_added (slice_index_or c.args.self.now c.args.k []) c.args.stride c.args.samples.now (same ∙ ap (λ (first : ℤ). first ∷ replicate 15 (pos 0)) zero_is) c.type_inv.samples
