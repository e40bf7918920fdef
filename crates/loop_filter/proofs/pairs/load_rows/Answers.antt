use Rattle.loop_filter.proofs.Loaded.{loaded_column}
use Rattle.loop_filter.proofs.pairs.load_rows.Goals as goal

pub returns-clause-u : goal.returns-clause-u
returns-clause-u c = λ i less.
    loaded_column c.args.u.now c.args.start c.args.stride i _ (c.load_both.ensures.u i less) (c.load_both-2.ensures.u i less) (c.load_both-3.ensures.u i less) (c.load_both-4.ensures.u i less) (c.load_both-5.ensures.u i less) (c.load_both-6.ensures.u i less) (c.load_both-7.ensures.u i less) (c.load_both-8.ensures.u i less)

pub returns-clause-v : goal.returns-clause-v
returns-clause-v c = λ i less.
    loaded_column c.args.v.now c.args.start c.args.stride i _ (c.load_both.ensures.v i less) (c.load_both-2.ensures.v i less) (c.load_both-3.ensures.v i less) (c.load_both-4.ensures.v i less) (c.load_both-5.ensures.v i less) (c.load_both-6.ensures.v i less) (c.load_both-7.ensures.v i less) (c.load_both-8.ensures.v i less)
