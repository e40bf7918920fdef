use Rattle.std.proofs.Common.{◌≡◌, ◌+◌, ◌≤◌, length}
use Rattle.webm_writing.specs.Fitting.{SamplesFit}
use Rattle.webm_writing.specs.Pieces.{text_of}
use Rattle.webm_writing.specs.Written.{clusters_in, cues_from, groups}
use Rattle.webm_writing.proofs.Grouped.{Has}
use Rattle.webm_writing.proofs.indexes.write_cues_from.Given as goal

abbrev pub invariant-cues : goal.invariant-cues
invariant-cues g l = record {
  samples : SamplesFit l.rest;
  has : Has (g.W.Write.contents l.fn.w) (g.W.Write.contents l.w) (cues_from l.first (groups l.most l.samples)) (cues_from l.at (groups l.most l.rest));
  place : l.at + length (text_of (clusters_in l.most l.rest)) ≡ l.first + length (text_of (clusters_in l.most l.samples));
  low : l.first ≤ l.at;
}

abbrev pub decreases-cues : goal.decreases-cues
decreases-cues g l = length l.rest
