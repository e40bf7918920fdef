use Rattle.std.proofs.Common.{subst, sym, arith}
use Rattle.webm_writing.specs.Fitting.{SamplesFit}
use Rattle.webm_writing.proofs.Grouped.{first_fit, rest_fits}
use Rattle.webm_writing.proofs.Lengths.{next_is}
use Rattle.webm_writing.proofs.sizes.clusters_size.Goals as goal

pub cluster_bytes-requires : goal.cluster_bytes-requires
cluster_bytes-requires c = subst SamplesFit (sym c.split_at.ensures.front) (first_fit c.group_end.result c.clusters.rest.now c.clusters.invariant.samples)

pub clusters-preserved : goal.clusters-preserved
clusters-preserved c =
    let next = next_is c.args.most c.group_end.result c.clusters.rest.now c.split_at.result.0.now c.split_at.result.1.now
    c.group_end.ensures.least c.group_end.ensures.within c.group_end.ensures.groups c.split_at.ensures.front c.split_at.ensures.back in record {
      samples = subst SamplesFit (sym c.split_at.ensures.back) (rest_fits c.group_end.result c.clusters.rest.now c.clusters.invariant.samples);
      less = omega (arith, next, c.clusters.invariant.less);
      size = omega (arith, next, c.clusters.invariant.less, c.clusters.invariant.size, c.cluster_bytes.ensures);
    }
