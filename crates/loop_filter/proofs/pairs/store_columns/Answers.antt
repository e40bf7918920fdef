use Rattle.std.proofs.Common.{ℕ, List, ◌+◌, ap, ◌∙◌}
use Rattle.loop_filter.specs.Lanes.{eight_from, row_of, vectors}
use Rattle.loop_filter.proofs.Loaded.{paired_rows}
use Rattle.loop_filter.proofs.RowsPut.{same_rows}
use Rattle.loop_filter.proofs.pairs.store_columns.Goals as goal

pub returns-clause-u : goal.returns-clause-u
returns-clause-u c =
    let r = c.row_pairs.result in
    let e = c.row_pairs.ensures in
    let row : ℕ → List ℕ = λ (i : ℕ). row_of i (vectors c.args.taps) in
    let rows = paired_rows row r.0 r.1 r.2 r.3 (ap (eight_from 0) e.r0) (ap (eight_from 8) e.r0) (ap (eight_from 0) e.r2) (ap (eight_from 8) e.r2) (ap (eight_from 0) e.r4) (ap (eight_from 8) e.r4) (ap (eight_from 0) e.r6) (ap (eight_from 8) e.r6) in
    c.store_lines.ensures ∙ same_rows c.args.u.now c.args.start c.args.stride _ row 8 rows

pub returns-clause-v : goal.returns-clause-v
returns-clause-v c =
    let r = c.row_pairs.result in
    let e = c.row_pairs.ensures in
    let row : ℕ → List ℕ = λ (i : ℕ). row_of (8 + i) (vectors c.args.taps) in
    let rows = paired_rows row r.4 r.5 r.6 r.7 (ap (eight_from 0) e.r8) (ap (eight_from 8) e.r8) (ap (eight_from 0) e.r10) (ap (eight_from 8) e.r10) (ap (eight_from 0) e.r12) (ap (eight_from 8) e.r12) (ap (eight_from 0) e.r14) (ap (eight_from 8) e.r14) in
    c.store_lines-2.ensures ∙ same_rows c.args.v.now c.args.start c.args.stride _ row 8 rows
