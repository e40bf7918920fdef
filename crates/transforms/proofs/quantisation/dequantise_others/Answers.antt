use borrow.Author.Rules.{sfits_of}
use Rattle.std.proofs.Common.{◌∙◌, ap, get_or, ℤ, pos, refl, w16, SFits, to_z, of_z, to_z-of_z}
use Rattle.transforms.proofs.Passes.{next_same}
use Rattle.transforms.proofs.Products.{product_lane}
use Rattle.transforms.proofs.quantisation.dequantise_others.Goals as goal

pub returns : goal.returns
returns c =
    let first : SFits w16 c.args.first = c.ranges.first in
    let ac : SFits w16 c.args.ac = c.ranges.ac in
    let fits1 : SFits w16 (get_or c.args.coefficients.now 1 (pos 0)) = search sfits_of depth 2 parts 0 in
    let fits2 : SFits w16 (get_or c.args.coefficients.now 2 (pos 0)) = search sfits_of depth 2 parts 0 in
    let fits3 : SFits w16 (get_or c.args.coefficients.now 3 (pos 0)) = search sfits_of depth 2 parts 0 in
    let fits4 : SFits w16 (get_or c.args.coefficients.now 4 (pos 0)) = search sfits_of depth 2 parts 0 in
    let fits5 : SFits w16 (get_or c.args.coefficients.now 5 (pos 0)) = search sfits_of depth 2 parts 0 in
    let fits6 : SFits w16 (get_or c.args.coefficients.now 6 (pos 0)) = search sfits_of depth 2 parts 0 in
    let fits7 : SFits w16 (get_or c.args.coefficients.now 7 (pos 0)) = search sfits_of depth 2 parts 0 in
    let fits8 : SFits w16 (get_or c.args.coefficients.now 8 (pos 0)) = search sfits_of depth 2 parts 0 in
    let fits9 : SFits w16 (get_or c.args.coefficients.now 9 (pos 0)) = search sfits_of depth 2 parts 0 in
    let fits10 : SFits w16 (get_or c.args.coefficients.now 10 (pos 0)) = search sfits_of depth 2 parts 0 in
    let fits11 : SFits w16 (get_or c.args.coefficients.now 11 (pos 0)) = search sfits_of depth 2 parts 0 in
    let fits12 : SFits w16 (get_or c.args.coefficients.now 12 (pos 0)) = search sfits_of depth 2 parts 0 in
    let fits13 : SFits w16 (get_or c.args.coefficients.now 13 (pos 0)) = search sfits_of depth 2 parts 0 in
    let fits14 : SFits w16 (get_or c.args.coefficients.now 14 (pos 0)) = search sfits_of depth 2 parts 0 in
    let fits15 : SFits w16 (get_or c.args.coefficients.now 15 (pos 0)) = search sfits_of depth 2 parts 0 in
    next_same (ap (λ (z : ℤ). to_z w16 (of_z w16 z)) (to_z-of_z first) ∙ to_z-of_z first) (next_same (product_lane _ _ fits1 ac) (next_same (product_lane _ _ fits2 ac) (next_same (product_lane _ _ fits3 ac) (next_same (product_lane _ _ fits4 ac) (next_same (product_lane _ _ fits5 ac) (next_same (product_lane _ _ fits6 ac) (next_same (product_lane _ _ fits7 ac) (next_same (product_lane _ _ fits8 ac) (next_same (product_lane _ _ fits9 ac) (next_same (product_lane _ _ fits10 ac) (next_same (product_lane _ _ fits11 ac) (next_same (product_lane _ _ fits12 ac) (next_same (product_lane _ _ fits13 ac) (next_same (product_lane _ _ fits14 ac) (next_same (product_lane _ _ fits15 ac) refl)))))))))))))))
