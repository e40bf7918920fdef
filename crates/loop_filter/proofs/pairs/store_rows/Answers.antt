use Rattle.loop_filter.specs.Lanes.{vector, eight_from}
use Rattle.loop_filter.proofs.ChangedRows.{two_stores, four_stores, six_stores}
use Rattle.loop_filter.proofs.pairs.store_rows.Goals as goal

pub returns-in-Simple-clause-u : goal.returns-in-Simple-clause-u
returns-in-Simple-clause-u c = rw c.in-Simple.is (two_stores c.args.u.now c.args.start c.args.stride (λ k. eight_from 0 (vector c.args.taps k)) _ _ c.store_both.ensures.u c.store_both-in-Simple.ensures.u)

pub returns-in-Inner-clause-u : goal.returns-in-Inner-clause-u
returns-in-Inner-clause-u c =
    rw c.in-Inner.is (four_stores c.args.u.now c.args.start c.args.stride (λ k. eight_from 0 (vector c.args.taps k)) _ _ _ _ c.store_both-in-Inner.ensures.u c.store_both-in-Inner-2.ensures.u c.store_both-in-Inner-3.ensures.u c.store_both-in-Inner-4.ensures.u)

pub returns-in-Macroblock-clause-u : goal.returns-in-Macroblock-clause-u
returns-in-Macroblock-clause-u c =
    rw c.in-Macroblock.is
    (six_stores c.args.u.now c.args.start c.args.stride (λ k. eight_from 0 (vector c.args.taps k)) _ _ _ _ _ _ c.store_both-in-Macroblock.ensures.u c.store_both-in-Macroblock-2.ensures.u c.store_both-in-Macroblock-3.ensures.u c.store_both-in-Macroblock-4.ensures.u c.store_both-in-Macroblock-5.ensures.u c.store_both-in-Macroblock-6.ensures.u)

pub returns-in-Simple-clause-v : goal.returns-in-Simple-clause-v
returns-in-Simple-clause-v c = rw c.in-Simple.is (two_stores c.args.v.now c.args.start c.args.stride (λ k. eight_from 8 (vector c.args.taps k)) _ _ c.store_both.ensures.v c.store_both-in-Simple.ensures.v)

pub returns-in-Inner-clause-v : goal.returns-in-Inner-clause-v
returns-in-Inner-clause-v c =
    rw c.in-Inner.is (four_stores c.args.v.now c.args.start c.args.stride (λ k. eight_from 8 (vector c.args.taps k)) _ _ _ _ c.store_both-in-Inner.ensures.v c.store_both-in-Inner-2.ensures.v c.store_both-in-Inner-3.ensures.v c.store_both-in-Inner-4.ensures.v)

pub returns-in-Macroblock-clause-v : goal.returns-in-Macroblock-clause-v
returns-in-Macroblock-clause-v c =
    rw c.in-Macroblock.is
    (six_stores c.args.v.now c.args.start c.args.stride (λ k. eight_from 8 (vector c.args.taps k)) _ _ _ _ _ _ c.store_both-in-Macroblock.ensures.v c.store_both-in-Macroblock-2.ensures.v c.store_both-in-Macroblock-3.ensures.v c.store_both-in-Macroblock-4.ensures.v c.store_both-in-Macroblock-5.ensures.v c.store_both-in-Macroblock-6.ensures.v)
