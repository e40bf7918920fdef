use Rattle.std.proofs.Common.{◌+◌, ap, ◌∙◌, arith}
use Rattle.loop_filter.specs.Lines.{filtered_line}
use Rattle.loop_filter.specs.Lanes.{row_of, wide_vectors}
use Rattle.loop_filter.proofs.EdgeFold.{samples_of, columns_edge}
use Rattle.loop_filter.proofs.joined_edges.filter_joined_columns.Goals as goal

pub returns-clause-y : goal.returns-clause-y
returns-clause-y c =
    let f = filtered_line c.args.filter c.args.limits in
    c.store_columns.ensures.y
    ∙ columns_edge f c.args.y.now c.args.at.luma c.args.at.luma_stride 16 (λ i. row_of i (wide_vectors c.filter-changed.result)) c.requires.wide.0 (λ i less. ap samples_of (c.filter-changed.ensures i (omega arith) ∙ ap f (c.load_columns-taps.ensures.y i less)))

pub returns-clause-u : goal.returns-clause-u
returns-clause-u c =
    let f = filtered_line c.args.filter c.args.limits in
    c.store_columns.ensures.u
    ∙ columns_edge f c.args.u.now c.args.at.chroma c.args.at.chroma_stride 8 (λ i. row_of (16 + i) (wide_vectors c.filter-changed.result)) c.requires.wide.1 (λ i less. ap samples_of (c.filter-changed.ensures (16 + i) (omega arith) ∙ ap f (c.load_columns-taps.ensures.u i less)))

pub returns-clause-v : goal.returns-clause-v
returns-clause-v c =
    let f = filtered_line c.args.filter c.args.limits in
    c.store_columns.ensures.v
    ∙ columns_edge f c.args.v.now c.args.at.chroma c.args.at.chroma_stride 8 (λ i. row_of (24 + i) (wide_vectors c.filter-changed.result)) c.requires.wide.1 (λ i less. ap samples_of (c.filter-changed.ensures (24 + i) (omega arith) ∙ ap f (c.load_columns-taps.ensures.v i less)))
