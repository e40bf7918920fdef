use Rattle.loop_filter.specs.Lanes.{vector}
use Rattle.loop_filter.proofs.ChangedRows.{two_stores, four_stores, six_stores}
use Rattle.loop_filter.proofs.edges.store_rows.Goals as goal

pub returns-in-Simple-clause-value : goal.returns-in-Simple-clause-value
returns-in-Simple-clause-value c = rw c.in-Simple.is (two_stores c.args.samples.now c.args.start c.args.stride (vector c.args.taps) _ _ c.store.ensures.value c.store-in-Simple.ensures.value)

pub returns-in-Inner-clause-value : goal.returns-in-Inner-clause-value
returns-in-Inner-clause-value c =
    rw c.in-Inner.is (four_stores c.args.samples.now c.args.start c.args.stride (vector c.args.taps) _ _ _ _ c.store-in-Inner.ensures.value c.store-in-Inner-2.ensures.value c.store-in-Inner-3.ensures.value c.store-in-Inner-4.ensures.value)

pub returns-in-Macroblock-clause-value : goal.returns-in-Macroblock-clause-value
returns-in-Macroblock-clause-value c =
    rw c.in-Macroblock.is
    (six_stores c.args.samples.now c.args.start c.args.stride (vector c.args.taps) _ _ _ _ _ _ c.store-in-Macroblock.ensures.value c.store-in-Macroblock-2.ensures.value c.store-in-Macroblock-3.ensures.value c.store-in-Macroblock-4.ensures.value c.store-in-Macroblock-5.ensures.value c.store-in-Macroblock-6.ensures.value)
