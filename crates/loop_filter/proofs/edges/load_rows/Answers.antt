use Rattle.loop_filter.proofs.Loaded.{loaded_column}
use Rattle.loop_filter.proofs.edges.load_rows.Goals as goal

pub returns : goal.returns
returns c = λ i less.
    loaded_column c.args.samples.now c.args.start c.args.stride i _ (c.load.ensures i less) (c.load-2.ensures i less) (c.load-3.ensures i less) (c.load-4.ensures i less) (c.load-5.ensures i less) (c.load-6.ensures i less) (c.load-7.ensures i less) (c.load-8.ensures i less)
