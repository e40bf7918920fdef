use Rattle.std.proofs.Common.{◌^◌, ◌<◌, subst, sym}
use Rattle.webm_writing.specs.Fitting.{GroupFits, SamplesFit}
use Rattle.webm_writing.specs.Pieces.{text_of}
use Rattle.webm_writing.specs.Written.{cluster_bytes, cluster_pieces, clusters_in}
use Rattle.std.specs.Io.KnownBytes.{Appends}
use Rattle.webm_writing.proofs.Grouped.{Has, group_is, group_size, has_more, rest_fits}
use Rattle.webm_writing.proofs.clusters.write_clusters.Goals as goal

pub write_cluster-requires-clause-group : goal.write_cluster-requires-clause-group
write_cluster-requires-clause-group g c =
    subst GroupFits (sym c.split_at.ensures.front) (group_is c.args.most c.group_end.result c.clusters.rest.now c.requires.most c.clusters.invariant.samples c.group_end.ensures.groups)

pub write_cluster-requires-clause-size : goal.write_cluster-requires-clause-size
write_cluster-requires-clause-size g c =
    let w = g.W.Write.contents in
    subst (λ s. cluster_bytes s < 2 ^ 56) (sym c.split_at.ensures.front) (
    group_size (w c.args.w.now) (w c.clusters.w) c.args.most c.group_end.result (text_of (clusters_in c.args.most c.args.samples.now)) c.clusters.rest.now
    c.group_end.ensures.least c.group_end.ensures.within c.group_end.ensures.groups c.clusters.invariant.has c.requires.size
    )

pub clusters-preserved : goal.clusters-preserved
clusters-preserved g c =
    let w = g.W.Write.contents in
    let end = c.group_end.result in
    let text = text_of (clusters_in c.args.most c.args.samples.now) in
    let wrote = subst (λ s. Appends (w c.clusters.w) (w c.write_cluster.new.w) (text_of (cluster_pieces s))) c.split_at.ensures.front c.in_ok-write_cluster.ensures in record {
      samples = subst SamplesFit (sym c.split_at.ensures.back) (rest_fits end c.clusters.rest.now c.clusters.invariant.samples);
      has = subst (λ s. Has (w c.args.w.now) (w c.write_cluster.new.w) text (text_of (clusters_in c.args.most s))) (sym c.split_at.ensures.back) (
          has_more (w c.args.w.now) (w c.clusters.w) (w c.write_cluster.new.w) c.args.most end text c.clusters.rest.now c.group_end.ensures.groups c.clusters.invariant.has wrote
          );
    }
