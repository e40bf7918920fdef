use Rattle.std.proofs.Common.{ap, ◌∙◌}
use Rattle.std.specs.Prelude.{slice_index}
use Rattle.std.specs.Option.{option_copied}
use Rattle.std.proofs.lemmas.List.{get_or-replicate}
use Rattle.intra_predict.specs.Means.{gradient}
use Rattle.intra_predict.specs.WholeSample.{whole_sample, left_at}
use Rattle.intra_predict.proofs.Rows.{among_same}
use Rattle.intra_predict.proofs.whole_blocks.predict.Goals as goal

pub returns-in-Dc : goal.returns-in-Dc
unfolding whole_sample
returns-in-Dc g c =
    rw (c.in-Dc.is) (among_same _ _ g.row.N g.row.N c.args.stride c.args.out.now c.fill_rows.new.out c.fill_rows.ensures (λ column row inside below. get_or-replicate g.row.N column c.mean_inside-mean.result 0 inside ∙ c.mean_inside-mean.ensures))

pub returns-in-V : goal.returns-in-V
unfolding whole_sample
returns-in-V g c = rw (c.in-V.is) (among_same _ _ g.row.N g.row.N c.args.stride c.args.out.now c.fill_rows-in-V.new.out c.fill_rows-in-V.ensures (λ column row inside below. c.row_above.ensures column inside))

pub returns-in-H : goal.returns-in-H
unfolding whole_sample
returns-in-H g c = rw (c.in-H.is) (among_same _ _ g.row.N g.row.N c.args.stride c.args.out.now c.fill_columns.new.out c.fill_columns.ensures (λ column row inside below. c.column_left.ensures row below))

pub returns-in-Tm : goal.returns-in-Tm
unfolding whole_sample
returns-in-Tm g c =
    rw (c.in-Tm.is)
    (among_same _ _ g.row.N g.row.N c.args.stride c.args.out.now c.fill_gradients.new.out c.fill_gradients.ensures
    (λ column row inside below.
    ap (λ l. gradient l (slice_index c.row_above-row.result column) c.args.corner) (c.column_left-column.ensures row below)
    ∙ ap (λ a. gradient (left_at (option_copied c.args.left) row) a c.args.corner) (c.row_above-row.ensures column inside)))
