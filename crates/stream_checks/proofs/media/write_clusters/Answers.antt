use Rattle.std.proofs.Common.{◌≡◌, ◌+◌, ℕ, List, Some, ◌∷◌, ◌++◌, length, ap, sym, ◌∙◌, arith, append_assoc}
use Rattle.std.proofs.KnownBytes.{Appends-trans}
use Rattle.std.proofs.lemmas.Grind.{flat_map-append}
use Rattle.stream_checks.specs.declared.finding.Trouble.TheVariants.{InWebm}
use Rattle.stream_checks.specs.declared.webm_trouble.WebmTrouble.TheVariants.{NoTime}
use Rattle.stream_checks.specs.declared.finding.Finding.{Finding}
use Rattle.stream_checks.specs.declared.finding.Tally.{Tally}
use Rattle.stream_checks.specs.Listed.{found_around, listed}
use Rattle.stream_checks.specs.Media.{cluster_findings}
use Rattle.stream_checks.specs.Severity.{plus, tally_of}
use Rattle.stream_checks.specs.Texts.{text_of}
use Rattle.stream_checks.proofs.Tallies.{tally_append}
use Rattle.stream_checks.proofs.media.write_clusters.Goals as goal

pub loop-begins-preserved : goal.loop-begins-preserved
loop-begins-preserved g c =
    let begins : ℕ = c.in-Some.begins.now in
    let following = c.in-Some.following.now in
    let one : ℕ → List Finding = λ place. listed (found_around (Some (InWebm (NoTime place)))) in
    let found : List Finding = listed c.found.result in
    let met = c.loop-begins.invariant in
    let at : c.loop-begins.rest.now ≡ begins ∷ following = c.in-Some.ensures.cases.0 in
    let shorter : length following + 1 ≡ length c.loop-begins.rest.now = c.in-Some.ensures.cases.1 in
    let made = c.in_ok-more.ensures in
    let is : found ≡ one begins = ap listed c.found.ensures in
    record {
      done = met.done ++ found;
      whole = append_assoc met.done found (cluster_findings following)
          ∙ ap (λ (some : List Finding). met.done ++ (some ++ cluster_findings following)) is
          ∙ ap (λ (others : List ℕ). met.done ++ cluster_findings others) (sym at)
          ∙ met.whole;
      said = rw (flat_map-append (text_of c.args.form) met.done found) (Appends-trans _ _ _ _ _ met.said made.written);
      counted = c.plus-tally.ensures ∙ ap (λ (tally : Tally). plus tally c.in_ok-more.more) met.counted ∙ ap (λ (tally : Tally). plus (tally_of met.done) tally) made.counted ∙ sym (tally_append met.done found);
      few = omega (arith, met.few, made.few, shorter, ap (λ (tally : Tally). tally.damage) c.plus-tally.ensures, ap (λ (tally : Tally). tally.notes) c.plus-tally.ensures);
    }
