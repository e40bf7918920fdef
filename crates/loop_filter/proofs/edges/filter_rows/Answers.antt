use Rattle.std.specs.Prelude.{slice_index}
use Rattle.std.proofs.Common.{ap, ◌∙◌}
use Rattle.loop_filter.specs.Lines.{filtered_line}
use Rattle.loop_filter.specs.Lanes.{vector}
use Rattle.loop_filter.proofs.ChangedRows.{changed_rows}
use Rattle.loop_filter.proofs.EdgeFold.{samples_of}
use Rattle.loop_filter.proofs.Loaded.{lane_of_vector}
use Rattle.loop_filter.proofs.edges.filter_rows.Goals as goal

pub returns : goal.returns
returns c =
    let f = filtered_line c.args.filter c.args.limits in
    let t = c.filter_sixteen-changed.result in
    c.store_rows.ensures.value
    ∙ changed_rows c.args.filter c.args.limits c.args.samples.now c.args.start c.args.stride 16 (vector t) c.requires.wide c.requires.room c.store_rows.ensures.whole
    (λ i k less below. lane_of_vector t i k below ∙ ap (λ l. slice_index (samples_of l) k) (c.filter_sixteen-changed.ensures i less ∙ ap f (c.load_rows-taps.ensures i less)))
