use Rattle.std.proofs.Common.{ap, ◌∙◌}
use Rattle.loop_filter.specs.Lines.{filtered_line}
use Rattle.loop_filter.specs.Lanes.{row_of, vectors}
use Rattle.loop_filter.proofs.EdgeFold.{samples_of, columns_edge}
use Rattle.loop_filter.proofs.edges.filter_columns.Goals as goal

pub returns : goal.returns
returns c =
    let f = filtered_line c.args.filter c.args.limits in
    c.store_columns.ensures
    ∙ columns_edge f c.args.samples.now c.args.start c.args.stride 16 (λ i. row_of i (vectors c.filter_sixteen-changed.result)) c.requires.wide (λ i less. ap samples_of (c.filter_sixteen-changed.ensures i less ∙ ap f (c.load_columns-taps.ensures i less)))
