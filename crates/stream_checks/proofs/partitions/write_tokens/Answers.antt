use Rattle.std.proofs.Common.{◌≡◌, ◌+◌, List, Option, ◌∷◌, ◌++◌, length, ap, sym, ◌∙◌, arith, append_assoc}
use Rattle.std.proofs.KnownBytes.{Appends-trans}
use Rattle.std.proofs.lemmas.Grind.{flat_map-append}
use Rattle.macroblock_lists.specs.declared.partition_ends.PartitionEnd.{PartitionEnd}
use Rattle.stream_checks.specs.declared.finding.Finding.{Finding}
use Rattle.stream_checks.specs.declared.finding.Tally.{Tally}
use Rattle.stream_checks.specs.declared.finding.Trouble.{Trouble}
use Rattle.stream_checks.specs.Listed.{found, listed}
use Rattle.stream_checks.specs.Partitions.{token_findings}
use Rattle.stream_checks.specs.Severity.{plus, tally_of}
use Rattle.stream_checks.specs.Texts.{text_of}
use Rattle.stream_checks.proofs.Tallies.{tally_append}
use Rattle.stream_checks.proofs.partitions.write_tokens.Goals as goal

pub loop-end-preserved : goal.loop-end-preserved
loop-end-preserved g c =
    let spot = c.args.spot in
    let partition = c.loop-end.partition in
    let end = c.in-Some.end.now in
    let following = c.in-Some.following.now in
    let one : List Finding = listed c.found.result in
    let met = c.loop-end.invariant in
    let at : c.loop-end.rest.now ≡ end ∷ following = c.in-Some.ensures.cases.0 in
    let shorter : length following + 1 ≡ length c.loop-end.rest.now = c.in-Some.ensures.cases.1 in
    let made = c.in_ok-more.ensures in
    let joined : one ++ token_findings spot (partition + 1) following ≡ token_findings spot partition (end ∷ following) =
    ap (λ (finding : Option Finding). listed finding ++ token_findings spot (partition + 1) following) c.found.ensures
    ∙ ap (λ (trouble : Option Trouble). listed (found spot trouble) ++ token_findings spot (partition + 1) following) c.token_trouble.ensures in
    record {
      done = met.done ++ one;
      whole = append_assoc met.done one (token_findings spot (partition + 1) following)
          ∙ ap (λ (more : List Finding). met.done ++ more) joined
          ∙ ap (λ (rest : List PartitionEnd). met.done ++ token_findings spot partition rest) (sym at)
          ∙ met.whole;
      said = rw (flat_map-append (text_of c.args.form) met.done one) (Appends-trans _ _ _ _ _ met.said made.written);
      counted = c.plus-tally.ensures ∙ ap (λ (tally : Tally). plus tally c.in_ok-more.more) met.counted ∙ ap (λ (tally : Tally). plus (tally_of met.done) tally) made.counted ∙ sym (tally_append met.done one);
      few = omega (arith, met.few, made.few, ap (λ (tally : Tally). tally.damage) c.plus-tally.ensures, ap (λ (tally : Tally). tally.notes) c.plus-tally.ensures);
      partitions = omega (arith, met.partitions, shorter);
    }
