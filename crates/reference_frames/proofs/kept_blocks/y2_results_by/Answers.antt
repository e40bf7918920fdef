use borrow.Author.Rules.{sfits_of}
use Rattle.std.proofs.Common.{◌≡◌, ◌<◌, ◌≤◌, ◌∙◌, ◌∷◌, replicate, get_or, pos, w16, SFits, rules, to_z, of_z, to_z-of_z, arith}
use Rattle.std.proofs.lemmas.Bool.{lt-ltb}
use Rattle.transforms.specs.Transforms.{inverse_wht}
use Rattle.reference_frames.proofs.KeptBlocks.{y2_alone, y2_none}
use Rattle.reference_frames.proofs.kept_blocks.y2_results_by.Goals as goal

pub returns-then-end-gt1 : goal.returns-then-end-gt1
returns-then-end-gt1 c =
    let some : 0 < c.args.end = omega (arith, c.if-end-gt1.true) in
    rw (lt-ltb 0 c.args.end some) c.y2_results.ensures

pub returns-then-end-eq0 : goal.returns-then-end-eq0
returns-then-end-eq0 c = rw c.if-end-eq0.true (y2_none c.args.factors)

pub returns : goal.returns
returns c =
    let few : c.args.end ≤ 1 = omega (arith, c.if-end-gt1.false) in
    let some : 0 < c.args.end = omega (arith, c.if-end-eq0.false) in
    let y2_dc : SFits w16 c.args.factors.y2_dc = search rules in
    let first : SFits w16 (get_or c.args.coefficients.now 0 (pos 0)) = search sfits_of depth 2 parts 0 in
    let product = simp to_z-of_z at c.product-first.ensures in
    let fits : SFits w16 c.product-first.result = record { sfits = c.product-first.type_inv } in
    let whole : to_z w16 (of_z w16 c.product-first.result) ≡ c.product-first.result = to_z-of_z fits in
    let results : c.wht_first.result ≡ inverse_wht (to_z w16 (of_z w16 c.product-first.result) ∷ replicate 15 (pos 0)) = c.wht_first.ensures in
    let alone = rw (lt-ltb 0 c.args.end some) at c.requires few in
    rw (lt-ltb 0 c.args.end some) (rw (whole, product) at results ∙ y2_alone c.args.factors c.args.coefficients.now alone)
