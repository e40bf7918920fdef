use Rattle.std.proofs.Common.{◌≡◌, ◌-◌, ◌≤◌, length, min}
use Rattle.webm_writing.specs.Fitting.{SamplesFit}
use Rattle.webm_writing.specs.Pieces.{text_of}
use Rattle.webm_writing.specs.Written.{clusters_in}
use Rattle.webm_writing.proofs.sizes.clusters_size.Given as goal

abbrev pub invariant-clusters : goal.invariant-clusters
invariant-clusters l = record {
  samples : SamplesFit l.rest;
  less : length (text_of (clusters_in l.most l.rest)) ≤ length (text_of (clusters_in l.most l.samples));
  size : l.size ≡ min (length (text_of (clusters_in l.most l.samples)) - length (text_of (clusters_in l.most l.rest))) 18446744073709551615;
}

abbrev pub decreases-clusters : goal.decreases-clusters
decreases-clusters l = length l.rest
