use Rattle.std.proofs.Common.{sym, ◌∙◌}
use Rattle.intra_predict.proofs.MeanLemmas.{mean_of-none, mean_of-some, mean_of-first, mean_of-both}
use Rattle.intra_predict.proofs.whole_blocks.mean_inside.Goals as goal

pub returns-in-None-None : goal.returns-in-None-None
returns-in-None-None g c = rw (c.in-None-None.is-0, c.in-None-None.is-1) (sym mean_of-none)

pub returns-in-Some-None : goal.returns-in-Some-None
returns-in-Some-None g c =
    rw (c.in-Some-None.is-0, c.in-Some-None.is-1)
    (c.mean_of_sum-in-Some-None.ensures ∙ rw c.sum_of-in-Some-None.ensures.value (sym (mean_of-first g.row.N c.in-Some-None.above.now (c.requires.above c.in-Some-None.above c.in-Some-None.is-0) c.requires.lanes.0)))

pub returns-in-None-Some : goal.returns-in-None-Some
returns-in-None-Some g c =
    rw (c.in-None-Some.is-0, c.in-None-Some.is-1)
    (c.mean_of_sum.ensures ∙ rw c.sum_of.ensures.value (sym (mean_of-some g.row.N c.in-None-Some.left.now (c.requires.left c.in-None-Some.left c.in-None-Some.is-1) c.requires.lanes.0)))

pub returns-in-Some-Some : goal.returns-in-Some-Some
returns-in-Some-Some g c =
    rw (c.in-Some-Some.is-0, c.in-Some-Some.is-1)
    (c.mean_of_sum-in-Some-Some.ensures
    ∙ rw (c.sum_of-in-Some-Some.ensures.value, c.sum_of-in-Some-Some-2.ensures.value)
    (sym (mean_of-both g.row.N c.in-Some-Some.above.now c.in-Some-Some.left.now (c.requires.above c.in-Some-Some.above c.in-Some-Some.is-0) (c.requires.left c.in-Some-Some.left c.in-Some-Some.is-1) c.requires.lanes.0)))
