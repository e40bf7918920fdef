use Rattle.std.proofs.Common.{subst, sym, arith}
use Rattle.webm_writing.specs.Fitting.{SampleFits}
use Rattle.webm_writing.proofs.Composed.{sample_at}
use Rattle.webm_writing.proofs.clusters.cluster_bytes.Goals as goal

pub block_bytes-requires : goal.block_bytes-requires
block_bytes-requires c = let fits = subst SampleFits (sym c.sample-item.is) (sample_at c.loop-sample.sample-index c.args.samples.now _ c.requires c.loop-sample-test.true) in omega (arith, fits.size)
