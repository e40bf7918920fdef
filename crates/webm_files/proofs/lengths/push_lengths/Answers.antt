use Rattle.std.proofs.Common.{[], ◌∷◌, ◌++◌}
use Rattle.std.proofs.lemmas.Result.{on_ok_weaker}
use Rattle.webm_files.proofs.Walked.{walked_more}
use Rattle.webm_files.proofs.LengthLemmas.{wrong_left, wrong_more}
use Rattle.webm_files.proofs.lengths.push_lengths.Goals as goal

pub elements-preserved : goal.elements-preserved
elements-preserved c =
    let file = c.args.bytes.now in
    let element = c.in-Some.element in
    let next = c.in-Some.ensures in
    let met = c.elements.invariant in record {
      inside = next.inside;
      elements = met.elements ++ element ∷ [];
      walked = walked_more file 0 met.elements _ element met.walked next.some;
      lengths = λ rest. wrong_more file c.args.is_cut c.args.level c.elements.span _ element met.elements _ c.elements.lengths.items _ rest c.in_ok-push_by_element.ensures c.open_after-span.ensures met.lengths;
    }

pub returns : goal.returns
returns c =
    let file = c.args.bytes.now in
    let met = c.elements.invariant in
    on_ok_weaker c.push_by_file.result (λ added. record {
      walk = record { elements = met.elements; end = c.elements.at };
      is = record { walked = met.walked; over = c.in_default.ensures.none };
      added = wrong_left file c.args.is_cut c.args.level c.elements.span met.elements _ c.elements.lengths.items _ added met.lengths;
    }) c.push_by_file.ensures
