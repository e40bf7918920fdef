use Rattle.std.proofs.Common.{◌≡◌, ◌≤◌, ◌-◌, ◌++◌, List, length}
use Rattle.webm_files.specs.declared.elements.Element.{Element}
use Rattle.webm_files.specs.Walks.{Walked}
use Rattle.webm_files.specs.Kept.{gaps_before, parts_of, skipped}
use Rattle.webm_files.specs.Clusters.{timeless_of}
use Rattle.webm_files.proofs.ClusterLemmas.{timeless_with}
use Rattle.webm_files.proofs.gaps.read_gaps.Given as goal

abbrev pub invariant-elements : goal.invariant-elements
invariant-elements l = record {
  inside : l.at ≤ length l.bytes;
  few : l.spare ≤ l.at;
  elements : List Element;
  walked : Walked l.bytes 0 elements l.at;
  gaps : l.gaps.items ≡ gaps_before 0 elements;
  spare : l.spare ≡ skipped (gaps_before 0 elements);
  parts : l.parts.items ≡ parts_of elements;
  timeless : (rest : List Element) → l.timeless.items ++ timeless_with l.waits rest ≡ timeless_of (elements ++ rest);
}

abbrev pub decreases-elements : goal.decreases-elements
decreases-elements l = length l.bytes - l.at
