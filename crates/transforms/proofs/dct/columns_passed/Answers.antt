use borrow.Author.Rules.{sfits_of}
use Rattle.std.proofs.Common.{get_or, pos, w16, SFits}
use Rattle.transforms.proofs.Columns.{column_lanes, cosine_small}
use Rattle.transforms.proofs.dct.columns_passed.Goals as goal

pub returns-clause-first : goal.returns-clause-first
returns-clause-first c =
    let fits0 : SFits w16 (get_or c.args.coefficients.now 0 (pos 0)) = search sfits_of depth 2 parts 0 in
    let fits1 : SFits w16 (get_or c.args.coefficients.now 4 (pos 0)) = search sfits_of depth 2 parts 0 in
    let fits2 : SFits w16 (get_or c.args.coefficients.now 8 (pos 0)) = search sfits_of depth 2 parts 0 in
    let fits3 : SFits w16 (get_or c.args.coefficients.now 12 (pos 0)) = search sfits_of depth 2 parts 0 in
    column_lanes c.args.coefficients.now 0 fits0 fits1 fits2 fits3

pub returns-clause-second : goal.returns-clause-second
returns-clause-second c =
    let fits0 : SFits w16 (get_or c.args.coefficients.now 1 (pos 0)) = search sfits_of depth 2 parts 0 in
    let fits1 : SFits w16 (get_or c.args.coefficients.now 5 (pos 0)) = search sfits_of depth 2 parts 0 in
    let fits2 : SFits w16 (get_or c.args.coefficients.now 9 (pos 0)) = search sfits_of depth 2 parts 0 in
    let fits3 : SFits w16 (get_or c.args.coefficients.now 13 (pos 0)) = search sfits_of depth 2 parts 0 in
    column_lanes c.args.coefficients.now 1 fits0 fits1 fits2 fits3

pub returns-clause-third : goal.returns-clause-third
returns-clause-third c =
    let fits0 : SFits w16 (get_or c.args.coefficients.now 2 (pos 0)) = search sfits_of depth 2 parts 0 in
    let fits1 : SFits w16 (get_or c.args.coefficients.now 6 (pos 0)) = search sfits_of depth 2 parts 0 in
    let fits2 : SFits w16 (get_or c.args.coefficients.now 10 (pos 0)) = search sfits_of depth 2 parts 0 in
    let fits3 : SFits w16 (get_or c.args.coefficients.now 14 (pos 0)) = search sfits_of depth 2 parts 0 in
    column_lanes c.args.coefficients.now 2 fits0 fits1 fits2 fits3

pub returns-clause-fourth : goal.returns-clause-fourth
returns-clause-fourth c =
    let fits0 : SFits w16 (get_or c.args.coefficients.now 3 (pos 0)) = search sfits_of depth 2 parts 0 in
    let fits1 : SFits w16 (get_or c.args.coefficients.now 7 (pos 0)) = search sfits_of depth 2 parts 0 in
    let fits2 : SFits w16 (get_or c.args.coefficients.now 11 (pos 0)) = search sfits_of depth 2 parts 0 in
    let fits3 : SFits w16 (get_or c.args.coefficients.now 15 (pos 0)) = search sfits_of depth 2 parts 0 in
    column_lanes c.args.coefficients.now 3 fits0 fits1 fits2 fits3

pub overflow_cast-cosine1-2 : goal.overflow_cast-cosine1-2
overflow_cast-cosine1-2 c =
    let fits0 : SFits w16 (get_or c.args.coefficients.now 4 (pos 0)) = search sfits_of depth 2 parts 0 in
    let fits1 : SFits w16 (get_or c.args.coefficients.now 5 (pos 0)) = search sfits_of depth 2 parts 0 in
    let fits2 : SFits w16 (get_or c.args.coefficients.now 6 (pos 0)) = search sfits_of depth 2 parts 0 in
    let fits3 : SFits w16 (get_or c.args.coefficients.now 7 (pos 0)) = search sfits_of depth 2 parts 0 in
    (cosine_small _ fits0, (cosine_small _ fits1, (cosine_small _ fits2, (cosine_small _ fits3, tt))))

pub overflow_cast-cosine3-2 : goal.overflow_cast-cosine3-2
overflow_cast-cosine3-2 c =
    let fits0 : SFits w16 (get_or c.args.coefficients.now 12 (pos 0)) = search sfits_of depth 2 parts 0 in
    let fits1 : SFits w16 (get_or c.args.coefficients.now 13 (pos 0)) = search sfits_of depth 2 parts 0 in
    let fits2 : SFits w16 (get_or c.args.coefficients.now 14 (pos 0)) = search sfits_of depth 2 parts 0 in
    let fits3 : SFits w16 (get_or c.args.coefficients.now 15 (pos 0)) = search sfits_of depth 2 parts 0 in
    (cosine_small _ fits0, (cosine_small _ fits1, (cosine_small _ fits2, (cosine_small _ fits3, tt))))
