use Rattle.std.proofs.Common.{◌∙◌}
use Rattle.std.proofs.lemmas.List.{get_or-replicate}
use Rattle.intra_predict.specs.InPlace.{start_of}
use Rattle.intra_predict.specs.WholeSample.{whole_sample}
use Rattle.intra_predict.proofs.InPlace.{from_same}
use Rattle.intra_predict.proofs.in_place.predict.Goals as goal

pub returns-in-Dc : goal.returns-in-Dc
unfolding whole_sample
returns-in-Dc g c =
    rw (c.in-Dc.is)
    (from_same _ _ (start_of c.args.corner) g.row.N g.row.N c.args.corner.across c.args.samples.now c.fill_block.new.samples c.fill_block.ensures (λ column row inside below. get_or-replicate g.row.N column c.mean_around-mean.result 0 inside ∙ c.mean_around-mean.ensures))

pub returns-in-V : goal.returns-in-V
unfolding whole_sample
returns-in-V g c =
    rw (c.in-V.is)
    (from_same _ _ (start_of c.args.corner) g.row.N g.row.N c.args.corner.across c.args.samples.now c.fill_block-in-V.new.samples c.fill_block-in-V.ensures (λ column row inside below. c.row_above-line.ensures.samples column inside))

pub returns-in-H : goal.returns-in-H
unfolding whole_sample
returns-in-H g c = rw (c.in-H.is) c.fill_from_left.ensures

pub returns-in-Tm : goal.returns-in-Tm
unfolding whole_sample
returns-in-Tm g c = rw (c.in-Tm.is) c.fill_by_gradients.ensures
