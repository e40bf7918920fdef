use Rattle.std.proofs.Common.{[], ◌∷◌, ◌++◌, ◌∙◌, ap, sym, arith, length, subst, ◌↔◌, IsTrue}
use Rattle.std.proofs.lemmas.List.{take_rest}
use Rattle.webm_files.specs.Walks.{IsCut}
use Rattle.webm_files.specs.Kept.{gap_between, gaps_before, skipped}
use Rattle.webm_files.proofs.Walked.{walked_more}
use Rattle.webm_files.proofs.GapLemmas.{gaps_more, skipped_more, parts_more}
use Rattle.webm_files.proofs.ClusterLemmas.{none_left, timeless_more}
use Rattle.webm_files.proofs.gaps.read_gaps.Goals as goal

pub elements-preserved : goal.elements-preserved
elements-preserved c =
    let file = c.args.bytes.now in
    let element = c.in-Some.element in
    let next = c.in-Some.ensures in
    let met = c.elements.invariant in
    let more = gaps_more file 0 met.elements c.elements.at element met.walked in record {
      inside = next.inside;
      few = omega (arith, met.few, next.later, next.least);
      elements = met.elements ++ element ∷ [];
      walked = walked_more file 0 met.elements _ element met.walked next.some;
      gaps = c.in_ok-push_gap.ensures ∙ ap (λ gaps. gaps ++ gap_between c.elements.at element.place) met.gaps ∙ sym more;
      spare = skipped_more (gaps_before 0 met.elements) c.elements.at element.place _ next.later met.spare ∙ ap skipped (sym more);
      parts = c.in_ok-push_part.ensures ∙ parts_more _ met.elements element met.parts;
      timeless = λ rest. timeless_more c.elements.waits _ element met.elements c.elements.timeless.items _ rest c.in_ok-push_timeless.ensures c.waits_after-waits.ensures met.timeless;
    }

pub returns : goal.returns
returns c =
    let file = c.args.bytes.now in
    let at = c.elements.at in
    let met = c.elements.invariant in record {
      walk = record { elements = met.elements; end = at };
      is = record { walked = met.walked; over = c.in_default.ensures.none };
      gaps = c.in_ok-push_gap-2.ensures ∙ ap (λ gaps. gaps ++ gap_between at (length file)) met.gaps;
      spare = skipped_more (gaps_before 0 met.elements) at (length file) _ met.inside met.spare;
      parts = met.parts;
      timeless = none_left c.elements.waits c.elements.timeless.items met.elements met.timeless;
      cut = subst (λ text. IsTrue c.is_cut.result ↔ IsCut text) (take_rest file at) c.is_cut.ensures;
    }
