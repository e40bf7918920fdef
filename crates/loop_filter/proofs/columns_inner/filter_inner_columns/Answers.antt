use Rattle.std.proofs.Common.{◌≡◌, ℕ, ◌+◌, ◌*◌, ◌<◌, ◌≤◌, List, ◌++◌, ap, ◌∙◌, arith}
use Rattle.std.proofs.Math.Nat.{mul-le-mul_right}
use Rattle.loop_filter.specs.Lines.{Line, inner_line}
use Rattle.loop_filter.specs.Edges.{line_in}
use Rattle.loop_filter.specs.Lanes.{line_at, wide_line_at, row_of, vectors, wide_vectors, left_after, right_after}
use Rattle.loop_filter.proofs.EdgeFold.{samples_of, columns_edge}
use Rattle.loop_filter.proofs.RowsPut.{same_rows}
use Rattle.loop_filter.proofs.ThreeEdges.{row_filtered, three_edges}
use Rattle.loop_filter.proofs.columns_inner.filter_inner_columns.Goals as goal

pub returns-clause-y : goal.returns-clause-y
returns-clause-y c =
    let f = inner_line c.args.limits in
    let s = c.args.y.now in
    let start = c.args.at.luma in
    let stride = c.args.at.luma_stride in
    let first = c.split_lines.result.0 in
    let right = c.load_columns-right.result in
    let halves = c.filter_others-halves.result in
    let row : ℕ → List ℕ = λ (i : ℕ). row_of i (wide_vectors halves) ++ row_of (16 + i) (wide_vectors halves) in
    let first_is : (i : ℕ) → i < 16 → line_at first i ≡ f (line_in s (start + i * stride) 1) =
    λ (i : ℕ) (less : i < 16). c.split_lines.ensures.first i less ∙ c.filter-changed.ensures i (omega arith) ∙ ap f (c.load_columns-taps.ensures.y i less) in
    let right_is : (i : ℕ) → i < 16 → line_at right i ≡ line_in s (start + i * stride + 8) 1 =
    λ (i : ℕ) (less : i < 16). c.load_columns-right.ensures i less ∙ (let place : start + 8 + i * stride ≡ start + i * stride + 8 = omega arith in ap (λ p. line_in s p 1) place) in
    let row_is : (i : ℕ) → i < 16 → row i ≡ row_filtered f s (start + i * stride) =
    λ (i : ℕ) (less : i < 16).
    ap (λ (l : Line). samples_of l ++ samples_of (wide_line_at halves (16 + i))) (c.filter_others-halves.ensures.left i less)
    ∙ ap (λ (l : Line). samples_of (left_after f (line_at first i) (line_at right i)) ++ samples_of l) (c.filter_others-halves.ensures.right i less)
    ∙ ap (λ (l : Line). samples_of (left_after f l (line_at right i)) ++ samples_of (right_after f l (line_at right i))) (first_is i less)
    ∙ ap (λ (l : Line). samples_of (left_after f (f (line_in s (start + i * stride) 1)) l) ++ samples_of (right_after f (f (line_in s (start + i * stride) 1)) l)) (right_is i less) in
    c.store_block.ensures
    ∙ same_rows s start stride row (λ i. row_filtered f s (start + i * stride)) 16 row_is
    ∙ three_edges f s start stride 16 c.requires.wide.0 (λ i less. let le : i * stride ≤ 15 * stride = mul-le-mul_right stride (omega arith) in omega (arith, le, c.requires.room_y))

pub returns-clause-u : goal.returns-clause-u
returns-clause-u c =
    let f = inner_line c.args.limits in
    c.store_columns.ensures.u
    ∙ columns_edge f c.args.u.now c.args.at.chroma c.args.at.chroma_stride 8 (λ i. row_of i (vectors c.split_lines.result.1)) c.requires.wide.1
    (λ i less. ap samples_of (c.split_lines.ensures.second i (omega arith) ∙ c.filter-changed.ensures (16 + i) (omega arith) ∙ ap f (c.load_columns-taps.ensures.u i less)))

pub returns-clause-v : goal.returns-clause-v
returns-clause-v c =
    let f = inner_line c.args.limits in
    c.store_columns.ensures.v
    ∙ columns_edge f c.args.v.now c.args.at.chroma c.args.at.chroma_stride 8 (λ i. row_of (8 + i) (vectors c.split_lines.result.1)) c.requires.wide.1
    (λ i less.
    let same : 16 + (8 + i) ≡ 24 + i = omega arith in
    ap samples_of (c.split_lines.ensures.second (8 + i) (omega arith) ∙ c.filter-changed.ensures (16 + (8 + i)) (omega arith) ∙ ap f (ap (wide_line_at c.load_columns-taps.result) same ∙ c.load_columns-taps.ensures.v i less)))
