use Rattle.std.proofs.Common.{◌≡◌, ◌+◌, List, Some, ◌∷◌, ◌++◌, length, ap, sym, ◌∙◌, arith, append_assoc}
use Rattle.std.proofs.KnownBytes.{Appends-trans}
use Rattle.std.proofs.lemmas.Grind.{flat_map-append}
use Rattle.webm_files.specs.declared.lengths.WrongLength.{WrongLength}
use Rattle.stream_checks.specs.declared.finding.Trouble.TheVariants.{InWebm}
use Rattle.stream_checks.specs.declared.webm_trouble.WebmTrouble.{WebmTrouble}
use Rattle.stream_checks.specs.declared.finding.Finding.{Finding}
use Rattle.stream_checks.specs.declared.finding.Tally.{Tally}
use Rattle.stream_checks.specs.Listed.{found_around, listed}
use Rattle.stream_checks.specs.Media.{length_findings, length_trouble}
use Rattle.stream_checks.specs.Severity.{plus, tally_of}
use Rattle.stream_checks.specs.Texts.{text_of}
use Rattle.stream_checks.proofs.Tallies.{tally_append}
use Rattle.stream_checks.proofs.media.write_lengths.Goals as goal

pub loop-wrong-preserved : goal.loop-wrong-preserved
loop-wrong-preserved g c =
    let wrong : WrongLength = c.in-Some.wrong.now in
    let following = c.in-Some.following.now in
    let one : WrongLength → List Finding = λ wrong. listed (found_around (Some (InWebm (length_trouble wrong)))) in
    let found : List Finding = listed c.found.result in
    let met = c.loop-wrong.invariant in
    let at : c.loop-wrong.rest.now ≡ wrong ∷ following = c.in-Some.ensures.cases.0 in
    let shorter : length following + 1 ≡ length c.loop-wrong.rest.now = c.in-Some.ensures.cases.1 in
    let made = c.in_ok-more.ensures in
    let is : found ≡ one wrong = ap listed (c.found.ensures ∙ ap (λ (trouble : WebmTrouble). found_around (Some (InWebm trouble))) c.length_trouble-trouble.ensures) in
    record {
      done = met.done ++ found;
      whole = append_assoc met.done found (length_findings following)
          ∙ ap (λ (some : List Finding). met.done ++ (some ++ length_findings following)) is
          ∙ ap (λ (others : List WrongLength). met.done ++ length_findings others) (sym at)
          ∙ met.whole;
      said = rw (flat_map-append (text_of c.args.form) met.done found) (Appends-trans _ _ _ _ _ met.said made.written);
      counted = c.plus-tally.ensures ∙ ap (λ (tally : Tally). plus tally c.in_ok-more.more) met.counted ∙ ap (λ (tally : Tally). plus (tally_of met.done) tally) made.counted ∙ sym (tally_append met.done found);
      few = omega (arith, met.few, made.few, shorter, ap (λ (tally : Tally). tally.damage) c.plus-tally.ensures, ap (λ (tally : Tally). tally.notes) c.plus-tally.ensures);
    }
