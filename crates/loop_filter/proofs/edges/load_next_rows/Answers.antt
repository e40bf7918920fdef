use Rattle.std.proofs.Common.{refl}
use Rattle.loop_filter.specs.Lanes.{line_at}
use Rattle.loop_filter.proofs.ChangedRows.{next_column}
use Rattle.loop_filter.proofs.edges.load_next_rows.Goals as goal

pub returns : goal.returns
returns c = λ i less.
    next_column c.args.samples.now c.args.start c.args.stride i (line_at c.args.above i) _ (c.requires.above i less) refl refl refl refl (c.load.ensures i less) (c.load-2.ensures i less) (c.load-3.ensures i less) (c.load-4.ensures i less)
