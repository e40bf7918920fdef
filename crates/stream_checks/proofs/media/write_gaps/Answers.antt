use Rattle.std.proofs.Common.{◌≡◌, ◌+◌, List, Some, ◌∷◌, ◌++◌, length, ap, sym, ◌∙◌, arith, append_assoc}
use Rattle.std.proofs.KnownBytes.{Appends-trans}
use Rattle.std.proofs.lemmas.Grind.{flat_map-append}
use Rattle.webm_files.specs.declared.gaps.Gap.{Gap}
use Rattle.stream_checks.specs.declared.finding.Trouble.TheVariants.{InWebm}
use Rattle.stream_checks.specs.declared.webm_trouble.WebmTrouble.{WebmTrouble}
use Rattle.stream_checks.specs.declared.finding.Finding.{Finding}
use Rattle.stream_checks.specs.declared.finding.Tally.{Tally}
use Rattle.stream_checks.specs.Listed.{found_around, listed}
use Rattle.stream_checks.specs.Media.{gap_findings, gap_trouble}
use Rattle.stream_checks.specs.Severity.{plus, tally_of}
use Rattle.stream_checks.specs.Texts.{text_of}
use Rattle.stream_checks.proofs.Tallies.{tally_append}
use Rattle.stream_checks.proofs.media.write_gaps.Goals as goal

pub loop-gap-preserved : goal.loop-gap-preserved
loop-gap-preserved g c =
    let gap : Gap = c.in-Some.gap.now in
    let following = c.in-Some.following.now in
    let one : Gap → List Finding = λ gap. listed (found_around (Some (InWebm (gap_trouble c.args.size c.args.is_cut gap)))) in
    let found : List Finding = listed c.found.result in
    let met = c.loop-gap.invariant in
    let at : c.loop-gap.rest.now ≡ gap ∷ following = c.in-Some.ensures.cases.0 in
    let shorter : length following + 1 ≡ length c.loop-gap.rest.now = c.in-Some.ensures.cases.1 in
    let made = c.in_ok-more.ensures in
    let is : found ≡ one gap = ap listed (c.found.ensures ∙ ap (λ (trouble : WebmTrouble). found_around (Some (InWebm trouble))) c.gap_trouble-trouble.ensures) in
    record {
      done = met.done ++ found;
      whole = append_assoc met.done found (gap_findings c.args.size c.args.is_cut following)
          ∙ ap (λ (some : List Finding). met.done ++ (some ++ gap_findings c.args.size c.args.is_cut following)) is
          ∙ ap (λ (others : List Gap). met.done ++ gap_findings c.args.size c.args.is_cut others) (sym at)
          ∙ met.whole;
      said = rw (flat_map-append (text_of c.args.form) met.done found) (Appends-trans _ _ _ _ _ met.said made.written);
      counted = c.plus-tally.ensures ∙ ap (λ (tally : Tally). plus tally c.in_ok-more.more) met.counted ∙ ap (λ (tally : Tally). plus (tally_of met.done) tally) made.counted ∙ sym (tally_append met.done found);
      few = omega (arith, met.few, made.few, shorter, ap (λ (tally : Tally). tally.damage) c.plus-tally.ensures, ap (λ (tally : Tally). tally.notes) c.plus-tally.ensures);
    }
