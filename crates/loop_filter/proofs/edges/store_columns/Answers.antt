use Rattle.std.proofs.Common.{ℕ, List, ◌+◌, ◌*◌, ap, ◌∙◌}
use Rattle.loop_filter.specs.Lanes.{eight_from, row_of, rows_put, vectors}
use Rattle.loop_filter.proofs.Loaded.{paired_rows}
use Rattle.loop_filter.proofs.RowsPut.{same_rows, rows_put_on}
use Rattle.loop_filter.proofs.edges.store_columns.Goals as goal

pub returns : goal.returns
returns c =
    let s = c.args.samples.now in
    let start = c.args.start in
    let stride = c.args.stride in
    let r = c.row_pairs.result in
    let e = c.row_pairs.ensures in
    let row : ℕ → List ℕ = λ (i : ℕ). row_of i (vectors c.args.taps) in
    let upper = paired_rows row r.0 r.1 r.2 r.3 (ap (eight_from 0) e.r0) (ap (eight_from 8) e.r0) (ap (eight_from 0) e.r2) (ap (eight_from 8) e.r2) (ap (eight_from 0) e.r4) (ap (eight_from 8) e.r4) (ap (eight_from 0) e.r6) (ap (eight_from 8) e.r6) in
    let lower = paired_rows (λ i. row (8 + i)) r.4 r.5 r.6 r.7 (ap (eight_from 0) e.r8) (ap (eight_from 8) e.r8) (ap (eight_from 0) e.r10) (ap (eight_from 8) e.r10) (ap (eight_from 0) e.r12) (ap (eight_from 8) e.r12) (ap (eight_from 0) e.r14) (ap (eight_from 8) e.r14) in
    c.store_lines-2.ensures
    ∙ same_rows c.store_lines.new.samples (start + 8 * stride) stride _ (λ i. row (8 + i)) 8 lower
    ∙ ap (λ (l : List ℕ). rows_put l (start + 8 * stride) stride (λ i. row (8 + i)) 8) (c.store_lines.ensures ∙ same_rows s start stride _ row 8 upper)
    ∙ rows_put_on s start stride row 8 8
