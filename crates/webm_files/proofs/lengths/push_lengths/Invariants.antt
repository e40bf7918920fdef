use Rattle.std.proofs.Common.{◌≡◌, ◌≤◌, ◌-◌, ◌++◌, List, length}
use Rattle.webm_files.specs.declared.elements.Element.{Element}
use Rattle.webm_files.specs.Walks.{Walked}
use Rattle.webm_files.specs.Lengths.{wrong_at}
use Rattle.webm_files.proofs.LengthLemmas.{wrong_with}
use Rattle.webm_files.proofs.lengths.push_lengths.Given as goal

abbrev pub invariant-elements : goal.invariant-elements
invariant-elements l = record {
  inside : l.at ≤ length l.bytes;
  elements : List Element;
  walked : Walked l.bytes 0 elements l.at;
  lengths : (rest : List Element) → l.lengths.items ++ wrong_with l.bytes l.is_cut l.level l.span rest ≡ l.fn.lengths.items ++ wrong_at l.bytes l.is_cut l.level (elements ++ rest);
}

abbrev pub decreases-elements : goal.decreases-elements
decreases-elements l = length l.bytes - l.at
