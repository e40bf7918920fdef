use Rattle.std.specs.Prelude.{slice_index}
use Rattle.std.proofs.Common.{ℕ, ◌+◌, ◌*◌, List, refl, ap, sym, ◌∙◌, arith}
use Rattle.loop_filter.specs.Lines.{inner_line}
use Rattle.loop_filter.specs.Edges.{line_in}
use Rattle.loop_filter.specs.Lanes.{eight_from, vector}
use Rattle.loop_filter.specs.declared.edge_limits.EdgeFilter.TheVariants.{Inner}
use Rattle.loop_filter.proofs.ChangedRows.{changed_rows, column_after}
use Rattle.loop_filter.proofs.EdgeFold.{samples_of}
use Rattle.loop_filter.proofs.Loaded.{lane_of_vector, lane_of_first, lane_of_second}
use Rattle.loop_filter.proofs.rows_inner.filter_next_joined_rows.Goals as goal

pub returns-clause-y : goal.returns-clause-y
returns-clause-y c =
    let f = inner_line c.args.limits in
    let t = c.filter_both.result.0 in
    let stride = c.args.at.luma_stride in
    c.store_rows.ensures.value
    ∙ changed_rows Inner c.args.limits c.args.y.now (c.args.at.luma + 4 * stride) stride 16 (vector t) c.requires.wide.0 (omega (arith, c.requires.room_y)) c.store_rows.ensures.whole
    (λ i k less below. lane_of_vector t i k below ∙ ap (λ l. slice_index (samples_of l) k) (c.filter_both.ensures.a i less ∙ ap f (c.load_next_rows-luma.ensures i less)))

pub returns-clause-u : goal.returns-clause-u
returns-clause-u c =
    let f = inner_line c.args.limits in
    let t = c.filter_both.result.1 in
    let stride = c.args.at.chroma_stride in
    c.store_rows-2.ensures.u
    ∙ changed_rows Inner c.args.limits c.args.u.now (c.args.at.chroma + 4 * stride) stride 8 (λ k. eight_from 0 (vector t k)) c.requires.wide.1 (omega (arith, c.requires.room_u)) (λ k less. refl)
    (λ i k less below. lane_of_first t i k less below ∙ ap (λ l. slice_index (samples_of l) k) (c.filter_both.ensures.b i (omega arith) ∙ ap f (c.load_next_rows-chroma.ensures.u i less)))

pub returns-clause-v : goal.returns-clause-v
returns-clause-v c =
    let f = inner_line c.args.limits in
    let t = c.filter_both.result.1 in
    let stride = c.args.at.chroma_stride in
    c.store_rows-2.ensures.v
    ∙ changed_rows Inner c.args.limits c.args.v.now (c.args.at.chroma + 4 * stride) stride 8 (λ k. eight_from 8 (vector t k)) c.requires.wide.1 (omega (arith, c.requires.room_v)) (λ k less. refl)
    (λ i k less below. lane_of_second t i k less below ∙ ap (λ l. slice_index (samples_of l) k) (c.filter_both.ensures.b (8 + i) (omega arith) ∙ ap f (c.load_next_rows-chroma.ensures.v i less)))

pub returns-clause-lines : goal.returns-clause-lines
returns-clause-lines c = λ i less.
    let f = inner_line c.args.limits in
    let stride = c.args.at.luma_stride in
    let at = c.args.at.luma + 4 * stride in
    c.filter_both.ensures.a i less
    ∙ ap f (c.load_next_rows-luma.ensures i less)
    ∙ column_after f c.args.y.now at stride 16 i (omega (arith, c.requires.wide.0)) c.requires.wide.0 less (omega (arith, c.requires.wide.0, c.requires.room_y))
    ∙ ap (λ (l : List ℕ). line_in l (at + i) stride) (sym (returns-clause-y c))
