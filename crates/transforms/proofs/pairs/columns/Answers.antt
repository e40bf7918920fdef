use Rattle.std.proofs.Common.{◌∙◌}
use Rattle.transforms.proofs.PairLanes.{read_lanes, rows_passed, ArePassed, column0, column1, column2, column3}
use Rattle.transforms.proofs.pairs.columns.Goals as goal

pub passed-requires : goal.passed-requires
passed-requires c = (read_lanes _, read_lanes _, read_lanes _, read_lanes _)

pub turned-requires : goal.turned-requires
turned-requires c = (read_lanes _, read_lanes _, read_lanes _, read_lanes _)

pub returns-clause-first : goal.returns-clause-first
returns-clause-first c =
    let f = c.args.first.now in
    let s = c.args.second.now in
    let rows = c.rows.ensures in
    let fits = rows.lanes in
    let are : ArePassed f s c.passed.result.0 c.passed.result.1 c.passed.result.2 c.passed.result.3 = record { is0 = rows_passed 0 f s _ _ _ _ _ fits.0 fits.1 fits.2 fits.3 rows.first rows.second rows.third rows.fourth c.passed.ensures.first; is1 = rows_passed 1 f s _ _ _ _ _ fits.0 fits.1 fits.2 fits.3 rows.first rows.second rows.third rows.fourth c.passed.ensures.second; is2 = rows_passed 2 f s _ _ _ _ _ fits.0 fits.1 fits.2 fits.3 rows.first rows.second rows.third rows.fourth c.passed.ensures.third; is3 = rows_passed 3 f s _ _ _ _ _ fits.0 fits.1 fits.2 fits.3 rows.first rows.second rows.third rows.fourth c.passed.ensures.fourth } in
    c.turned.ensures.first ∙ column0 f s _ _ _ _ are

pub returns-clause-second : goal.returns-clause-second
returns-clause-second c =
    let f = c.args.first.now in
    let s = c.args.second.now in
    let rows = c.rows.ensures in
    let fits = rows.lanes in
    let are : ArePassed f s c.passed.result.0 c.passed.result.1 c.passed.result.2 c.passed.result.3 = record { is0 = rows_passed 0 f s _ _ _ _ _ fits.0 fits.1 fits.2 fits.3 rows.first rows.second rows.third rows.fourth c.passed.ensures.first; is1 = rows_passed 1 f s _ _ _ _ _ fits.0 fits.1 fits.2 fits.3 rows.first rows.second rows.third rows.fourth c.passed.ensures.second; is2 = rows_passed 2 f s _ _ _ _ _ fits.0 fits.1 fits.2 fits.3 rows.first rows.second rows.third rows.fourth c.passed.ensures.third; is3 = rows_passed 3 f s _ _ _ _ _ fits.0 fits.1 fits.2 fits.3 rows.first rows.second rows.third rows.fourth c.passed.ensures.fourth } in
    c.turned.ensures.second ∙ column1 f s _ _ _ _ are

pub returns-clause-third : goal.returns-clause-third
returns-clause-third c =
    let f = c.args.first.now in
    let s = c.args.second.now in
    let rows = c.rows.ensures in
    let fits = rows.lanes in
    let are : ArePassed f s c.passed.result.0 c.passed.result.1 c.passed.result.2 c.passed.result.3 = record { is0 = rows_passed 0 f s _ _ _ _ _ fits.0 fits.1 fits.2 fits.3 rows.first rows.second rows.third rows.fourth c.passed.ensures.first; is1 = rows_passed 1 f s _ _ _ _ _ fits.0 fits.1 fits.2 fits.3 rows.first rows.second rows.third rows.fourth c.passed.ensures.second; is2 = rows_passed 2 f s _ _ _ _ _ fits.0 fits.1 fits.2 fits.3 rows.first rows.second rows.third rows.fourth c.passed.ensures.third; is3 = rows_passed 3 f s _ _ _ _ _ fits.0 fits.1 fits.2 fits.3 rows.first rows.second rows.third rows.fourth c.passed.ensures.fourth } in
    c.turned.ensures.third ∙ column2 f s _ _ _ _ are

pub returns-clause-fourth : goal.returns-clause-fourth
returns-clause-fourth c =
    let f = c.args.first.now in
    let s = c.args.second.now in
    let rows = c.rows.ensures in
    let fits = rows.lanes in
    let are : ArePassed f s c.passed.result.0 c.passed.result.1 c.passed.result.2 c.passed.result.3 = record { is0 = rows_passed 0 f s _ _ _ _ _ fits.0 fits.1 fits.2 fits.3 rows.first rows.second rows.third rows.fourth c.passed.ensures.first; is1 = rows_passed 1 f s _ _ _ _ _ fits.0 fits.1 fits.2 fits.3 rows.first rows.second rows.third rows.fourth c.passed.ensures.second; is2 = rows_passed 2 f s _ _ _ _ _ fits.0 fits.1 fits.2 fits.3 rows.first rows.second rows.third rows.fourth c.passed.ensures.third; is3 = rows_passed 3 f s _ _ _ _ _ fits.0 fits.1 fits.2 fits.3 rows.first rows.second rows.third rows.fourth c.passed.ensures.fourth } in
    c.turned.ensures.fourth ∙ column3 f s _ _ _ _ are
