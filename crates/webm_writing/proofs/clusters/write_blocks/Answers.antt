use Rattle.std.proofs.Common.{subst, sym, arith}
use Rattle.webm_writing.specs.Fitting.{Stays}
use Rattle.webm_writing.proofs.Composed.{stays_at}
use Rattle.webm_writing.proofs.clusters.write_blocks.Goals as goal

pub write_block-requires-clause-track : goal.write_block-requires-clause-track
write_block-requires-clause-track g c =
    let stay = subst (Stays c.args.base) (sym c.sample-item.is) (stays_at c.args.base c.loop-sample.sample-index c.args.samples.now _ c.requires c.loop-sample-test.true) in omega (arith, stay.fits.track)

pub write_block-requires-clause-time : goal.write_block-requires-clause-time
write_block-requires-clause-time g c =
    let stay = subst (Stays c.args.base) (sym c.sample-item.is) (stays_at c.args.base c.loop-sample.sample-index c.args.samples.now _ c.requires c.loop-sample-test.true) in stay.low

pub write_block-requires-clause-near : goal.write_block-requires-clause-near
write_block-requires-clause-near g c =
    let stay = subst (Stays c.args.base) (sym c.sample-item.is) (stays_at c.args.base c.loop-sample.sample-index c.args.samples.now _ c.requires c.loop-sample-test.true) in stay.high

pub write_block-requires-clause-size : goal.write_block-requires-clause-size
write_block-requires-clause-size g c =
    let stay = subst (Stays c.args.base) (sym c.sample-item.is) (stays_at c.args.base c.loop-sample.sample-index c.args.samples.now _ c.requires c.loop-sample-test.true) in omega (arith, stay.fits.size)
