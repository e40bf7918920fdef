use Rattle.std.proofs.Common.{◌≤◌, [], ◌∷◌, ◌++◌, length, length-append, arith}
use Rattle.webm_files.specs.declared.ids.TheConstants.{INFO, TRACKS}
use Rattle.webm_files.proofs.Walked.{walked_more}
use Rattle.webm_files.proofs.SurveyLemmas.{first_of-more, first_of-within}
use Rattle.webm_files.proofs.surveys.read_survey.Goals as goal

pub elements-preserved : goal.elements-preserved
elements-preserved c =
    let file = c.args.bytes.now in
    let element = c.in-Some.element in
    let next = c.in-Some.ensures in
    let met = c.elements.invariant in record {
      inside = next.inside;
      elements = met.elements ++ element ∷ [];
      walked = walked_more file 0 met.elements _ element met.walked next.some;
      tracks = first_of-more TRACKS met.elements element _ _ met.tracks c.found_or-tracks.ensures;
      info = first_of-more INFO met.elements element _ _ met.info c.found_or-info.ensures;
      count = omega (arith, met.count, length-append met.elements (element ∷ []));
      few = omega (arith, met.few, next.later, next.least);
      tracks_order = first_of-within (λ found. found.start ≤ found.end) TRACKS element _ _ c.found_or-tracks.ensures met.tracks_order next.order;
      tracks_inside = first_of-within (λ found. found.end ≤ length file) TRACKS element _ _ c.found_or-tracks.ensures met.tracks_inside next.inside;
      info_order = first_of-within (λ found. found.start ≤ found.end) INFO element _ _ c.found_or-info.ensures met.info_order next.order;
      info_inside = first_of-within (λ found. found.end ≤ length file) INFO element _ _ c.found_or-info.ensures met.info_inside next.inside;
    }

pub returns-clause-is : goal.returns-clause-is
returns-clause-is c =
    let met = c.elements.invariant in record {
      walk = record { elements = met.elements; end = c.elements.at };
      is = record { walked = met.walked; over = c.in_default.ensures.none };
      tracks = met.tracks;
      info = met.info;
      count = met.count;
    }
