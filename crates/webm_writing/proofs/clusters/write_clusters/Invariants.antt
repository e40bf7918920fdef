use Rattle.std.proofs.Common.{length}
use Rattle.webm_writing.specs.Fitting.{SamplesFit}
use Rattle.webm_writing.specs.Pieces.{text_of}
use Rattle.webm_writing.specs.Written.{clusters_in}
use Rattle.webm_writing.proofs.Grouped.{Has}
use Rattle.webm_writing.proofs.clusters.write_clusters.Given as goal

abbrev pub invariant-clusters : goal.invariant-clusters
invariant-clusters g l = record {
  samples : SamplesFit l.rest;
  has : Has (g.W.Write.contents l.fn.w) (g.W.Write.contents l.w) (text_of (clusters_in l.most l.samples)) (text_of (clusters_in l.most l.rest));
}

abbrev pub decreases-clusters : goal.decreases-clusters
decreases-clusters g l = length l.rest
