use Rattle.std.specs.Prelude.{slice_index}
use Rattle.std.proofs.Common.{ℕ, ◌+◌, ◌*◌, List, ap, sym, ◌∙◌, arith}
use Rattle.loop_filter.specs.Lines.{inner_line}
use Rattle.loop_filter.specs.Edges.{line_in}
use Rattle.loop_filter.specs.Lanes.{vector}
use Rattle.loop_filter.specs.declared.edge_limits.EdgeFilter.TheVariants.{Inner}
use Rattle.loop_filter.proofs.ChangedRows.{changed_rows, column_after}
use Rattle.loop_filter.proofs.EdgeFold.{samples_of}
use Rattle.loop_filter.proofs.Loaded.{lane_of_vector}
use Rattle.loop_filter.proofs.rows_inner.filter_next_rows.Goals as goal

pub returns-clause-samples : goal.returns-clause-samples
returns-clause-samples c =
    let f = inner_line c.args.limits in
    let t = c.filter_sixteen-changed.result in
    c.store_rows.ensures.value
    ∙ changed_rows Inner c.args.limits c.args.samples.now (c.args.start + 4 * c.args.stride) c.args.stride 16 (vector t) c.requires.wide (omega (arith, c.requires.room)) c.store_rows.ensures.whole
    (λ i k less below. lane_of_vector t i k below ∙ ap (λ l. slice_index (samples_of l) k) (c.filter_sixteen-changed.ensures i less ∙ ap f (c.load_next_rows-taps.ensures i less)))

pub returns-clause-lines : goal.returns-clause-lines
returns-clause-lines c = λ i less.
    let f = inner_line c.args.limits in
    let s = c.args.samples.now in
    let stride = c.args.stride in
    let at = c.args.start + 4 * stride in
    c.filter_sixteen-changed.ensures i less
    ∙ ap f (c.load_next_rows-taps.ensures i less)
    ∙ column_after f s at stride 16 i (omega (arith, c.requires.wide)) c.requires.wide less (omega (arith, c.requires.wide, c.requires.room))
    ∙ ap (λ (l : List ℕ). line_in l (at + i) stride) (sym (returns-clause-samples c))
