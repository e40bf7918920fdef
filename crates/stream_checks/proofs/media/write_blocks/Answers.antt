use Rattle.std.proofs.Common.{◌≡◌, ◌+◌, List, ◌∷◌, ◌++◌, length, ap, sym, ◌∙◌, arith, append_assoc}
use Rattle.std.proofs.KnownBytes.{Appends-trans}
use Rattle.std.proofs.lemmas.Grind.{flat_map-append}
use Rattle.webm_files.specs.declared.blocks.Block.{Block}
use Rattle.stream_checks.specs.declared.finding.Finding.{Finding}
use Rattle.stream_checks.specs.declared.finding.Tally.{Tally}
use Rattle.stream_checks.specs.Listed.{found_around, listed}
use Rattle.stream_checks.specs.Media.{block_findings, block_trouble}
use Rattle.stream_checks.specs.Severity.{plus, tally_of}
use Rattle.stream_checks.specs.Texts.{text_of}
use Rattle.stream_checks.proofs.Tallies.{tally_append}
use Rattle.stream_checks.proofs.media.write_blocks.Goals as goal

pub loop-block-preserved : goal.loop-block-preserved
loop-block-preserved g c =
    let block : Block = c.in-Some.block.now in
    let following = c.in-Some.following.now in
    let one : Block → List Finding = λ block. listed (found_around (block_trouble c.args.video c.args.numbers.now block)) in
    let found : List Finding = listed c.found.result in
    let met = c.loop-block.invariant in
    let at : c.loop-block.rest.now ≡ block ∷ following = c.in-Some.ensures.cases.0 in
    let shorter : length following + 1 ≡ length c.loop-block.rest.now = c.in-Some.ensures.cases.1 in
    let made = c.in_ok-more.ensures in
    let is : found ≡ one block = ap listed (c.found.ensures ∙ ap found_around c.block_trouble.ensures) in
    record {
      done = met.done ++ found;
      whole = append_assoc met.done found (block_findings c.args.video c.args.numbers.now following)
          ∙ ap (λ (some : List Finding). met.done ++ (some ++ block_findings c.args.video c.args.numbers.now following)) is
          ∙ ap (λ (others : List Block). met.done ++ block_findings c.args.video c.args.numbers.now others) (sym at)
          ∙ met.whole;
      said = rw (flat_map-append (text_of c.args.form) met.done found) (Appends-trans _ _ _ _ _ met.said made.written);
      counted = c.plus-tally.ensures ∙ ap (λ (tally : Tally). plus tally c.in_ok-more.more) met.counted ∙ ap (λ (tally : Tally). plus (tally_of met.done) tally) made.counted ∙ sym (tally_append met.done found);
      few = omega (arith, met.few, made.few, shorter, ap (λ (tally : Tally). tally.damage) c.plus-tally.ensures, ap (λ (tally : Tally). tally.notes) c.plus-tally.ensures);
    }
