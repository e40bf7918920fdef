use Rattle.std.proofs.Common.{◌+◌, refl}
use Rattle.loop_filter.specs.Lanes.{line_at}
use Rattle.loop_filter.proofs.ChangedRows.{next_column}
use Rattle.loop_filter.proofs.pairs.load_next_rows.Goals as goal

pub returns-clause-u : goal.returns-clause-u
returns-clause-u c = λ i less.
    next_column c.args.u.now c.args.start c.args.stride i (line_at c.args.above i) _ (c.requires.above_u i less) refl refl refl refl (c.load_both.ensures.u i less) (c.load_both-2.ensures.u i less) (c.load_both-3.ensures.u i less) (c.load_both-4.ensures.u i less)

pub returns-clause-v : goal.returns-clause-v
returns-clause-v c = λ i less.
    next_column c.args.v.now c.args.start c.args.stride i (line_at c.args.above (8 + i)) _ (c.requires.above_v i less) refl refl refl refl (c.load_both.ensures.v i less) (c.load_both-2.ensures.v i less) (c.load_both-3.ensures.v i less) (c.load_both-4.ensures.v i less)
