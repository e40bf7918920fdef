use Rattle.std.proofs.Common.{ℕ, List, ◌+◌, ◌*◌, ap, ◌∙◌, arith}
use Rattle.loop_filter.specs.Lanes.{row_of, rows_put, wide_vectors}
use Rattle.loop_filter.proofs.Loaded.{eight_of_part, paired_rows}
use Rattle.loop_filter.proofs.RowsPut.{same_rows, rows_put_on}
use Rattle.loop_filter.proofs.wide_columns.store_columns.Goals as goal

pub returns-clause-y : goal.returns-clause-y
returns-clause-y c =
    let s = c.args.y.now in
    let start = c.args.at.luma in
    let stride = c.args.at.luma_stride in
    let r = c.transposed.result in
    let e = c.transposed.ensures in
    let row : ℕ → List ℕ = λ (i : ℕ). row_of i (wide_vectors c.args.taps) in
    let upper = paired_rows row c.split.result.0 c.split-2.result.0 c.split-3.result.0 c.split-4.result.0 (eight_of_part (λ i. i) 0 c.split.result.0 r.0 _ c.split.ensures.first e.v0 (omega arith)) (eight_of_part (λ i. i) 8 c.split.result.0 r.0 _ c.split.ensures.first e.v0 (omega arith)) (eight_of_part (λ i. i) 0 c.split-2.result.0 r.1 _ c.split-2.ensures.first e.v1 (omega arith)) (eight_of_part (λ i. i) 8 c.split-2.result.0 r.1 _ c.split-2.ensures.first e.v1 (omega arith)) (eight_of_part (λ i. i) 0 c.split-3.result.0 r.2 _ c.split-3.ensures.first e.v2 (omega arith)) (eight_of_part (λ i. i) 8 c.split-3.result.0 r.2 _ c.split-3.ensures.first e.v2 (omega arith)) (eight_of_part (λ i. i) 0 c.split-4.result.0 r.3 _ c.split-4.ensures.first e.v3 (omega arith)) (eight_of_part (λ i. i) 8 c.split-4.result.0 r.3 _ c.split-4.ensures.first e.v3 (omega arith)) in
    let lower = paired_rows (λ i. row (8 + i)) c.split-5.result.0 c.split-6.result.0 c.split-7.result.0 c.split-8.result.0 (eight_of_part (λ i. i) 0 c.split-5.result.0 r.4 _ c.split-5.ensures.first e.v4 (omega arith)) (eight_of_part (λ i. i) 8 c.split-5.result.0 r.4 _ c.split-5.ensures.first e.v4 (omega arith)) (eight_of_part (λ i. i) 0 c.split-6.result.0 r.5 _ c.split-6.ensures.first e.v5 (omega arith)) (eight_of_part (λ i. i) 8 c.split-6.result.0 r.5 _ c.split-6.ensures.first e.v5 (omega arith)) (eight_of_part (λ i. i) 0 c.split-7.result.0 r.6 _ c.split-7.ensures.first e.v6 (omega arith)) (eight_of_part (λ i. i) 8 c.split-7.result.0 r.6 _ c.split-7.ensures.first e.v6 (omega arith)) (eight_of_part (λ i. i) 0 c.split-8.result.0 r.7 _ c.split-8.ensures.first e.v7 (omega arith)) (eight_of_part (λ i. i) 8 c.split-8.result.0 r.7 _ c.split-8.ensures.first e.v7 (omega arith)) in
    c.store_lines-2.ensures
    ∙ same_rows c.store_lines.new.samples (start + 8 * stride) stride _ (λ i. row (8 + i)) 8 lower
    ∙ ap (λ (l : List ℕ). rows_put l (start + 8 * stride) stride (λ i. row (8 + i)) 8) (c.store_lines.ensures ∙ same_rows s start stride _ row 8 upper)
    ∙ rows_put_on s start stride row 8 8

pub returns-clause-u : goal.returns-clause-u
returns-clause-u c =
    let r = c.transposed.result in
    let e = c.transposed.ensures in
    let row : ℕ → List ℕ = λ (i : ℕ). row_of (16 + i) (wide_vectors c.args.taps) in
    let rows = paired_rows row c.split.result.1 c.split-2.result.1 c.split-3.result.1 c.split-4.result.1 (eight_of_part (λ i. 16 + i) 0 c.split.result.1 r.0 _ c.split.ensures.second e.v0 (omega arith)) (eight_of_part (λ i. 16 + i) 8 c.split.result.1 r.0 _ c.split.ensures.second e.v0 (omega arith)) (eight_of_part (λ i. 16 + i) 0 c.split-2.result.1 r.1 _ c.split-2.ensures.second e.v1 (omega arith)) (eight_of_part (λ i. 16 + i) 8 c.split-2.result.1 r.1 _ c.split-2.ensures.second e.v1 (omega arith)) (eight_of_part (λ i. 16 + i) 0 c.split-3.result.1 r.2 _ c.split-3.ensures.second e.v2 (omega arith)) (eight_of_part (λ i. 16 + i) 8 c.split-3.result.1 r.2 _ c.split-3.ensures.second e.v2 (omega arith)) (eight_of_part (λ i. 16 + i) 0 c.split-4.result.1 r.3 _ c.split-4.ensures.second e.v3 (omega arith)) (eight_of_part (λ i. 16 + i) 8 c.split-4.result.1 r.3 _ c.split-4.ensures.second e.v3 (omega arith)) in
    c.store_lines-3.ensures ∙ same_rows c.args.u.now c.args.at.chroma c.args.at.chroma_stride _ row 8 rows

pub returns-clause-v : goal.returns-clause-v
returns-clause-v c =
    let r = c.transposed.result in
    let e = c.transposed.ensures in
    let row : ℕ → List ℕ = λ (i : ℕ). row_of (24 + i) (wide_vectors c.args.taps) in
    let rows = paired_rows row c.split-5.result.1 c.split-6.result.1 c.split-7.result.1 c.split-8.result.1 (eight_of_part (λ i. 16 + i) 0 c.split-5.result.1 r.4 _ c.split-5.ensures.second e.v4 (omega arith)) (eight_of_part (λ i. 16 + i) 8 c.split-5.result.1 r.4 _ c.split-5.ensures.second e.v4 (omega arith)) (eight_of_part (λ i. 16 + i) 0 c.split-6.result.1 r.5 _ c.split-6.ensures.second e.v5 (omega arith)) (eight_of_part (λ i. 16 + i) 8 c.split-6.result.1 r.5 _ c.split-6.ensures.second e.v5 (omega arith)) (eight_of_part (λ i. 16 + i) 0 c.split-7.result.1 r.6 _ c.split-7.ensures.second e.v6 (omega arith)) (eight_of_part (λ i. 16 + i) 8 c.split-7.result.1 r.6 _ c.split-7.ensures.second e.v6 (omega arith)) (eight_of_part (λ i. 16 + i) 0 c.split-8.result.1 r.7 _ c.split-8.ensures.second e.v7 (omega arith)) (eight_of_part (λ i. 16 + i) 8 c.split-8.result.1 r.7 _ c.split-8.ensures.second e.v7 (omega arith)) in
    c.store_lines-4.ensures ∙ same_rows c.args.v.now c.args.at.chroma c.args.at.chroma_stride _ row 8 rows
