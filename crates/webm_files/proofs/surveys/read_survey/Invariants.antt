use Rattle.std.proofs.Common.{◌≡◌, ◌≤◌, ◌-◌, List, length, IfSome}
use Rattle.webm_files.specs.declared.ids.TheConstants.{INFO, TRACKS}
use Rattle.webm_files.specs.declared.elements.Element.{Element}
use Rattle.webm_files.specs.Walks.{Walked, first_of}
use Rattle.webm_files.proofs.surveys.read_survey.Given as goal

abbrev pub invariant-elements : goal.invariant-elements
invariant-elements l = record {
  inside : l.at ≤ length l.bytes;
  elements : List Element;
  walked : Walked l.bytes 0 elements l.at;
  tracks : l.tracks ≡ first_of TRACKS elements;
  info : l.info ≡ first_of INFO elements;
  count : l.count ≡ length elements;
  few : l.count ≤ l.at;
  tracks_order : IfSome l.tracks (λ found. found.start ≤ found.end);
  tracks_inside : IfSome l.tracks (λ found. found.end ≤ length l.bytes);
  info_order : IfSome l.info (λ found. found.start ≤ found.end);
  info_inside : IfSome l.info (λ found. found.end ≤ length l.bytes);
}

abbrev pub decreases-elements : goal.decreases-elements
decreases-elements l = length l.bytes - l.at
