use Rattle.std.proofs.Common.{◌≡◌, ◌∙◌, ap, refl, subst, drop, ◌↔◌, IsTrue}
use Rattle.webm_files.specs.Walks.{Walk, IsCut}
use Rattle.webm_files.specs.Blocks.{blocks_of}
use Rattle.webm_files.specs.Children.{number_or}
use Rattle.webm_files.specs.Kept.{gaps_of, parts_of, skipped}
use Rattle.webm_files.specs.Clusters.{timeless_of}
use Rattle.webm_files.specs.Lengths.{HasLengths, wrong_lengths}
use Rattle.webm_files.specs.Gaps.{HasGaps}
use Rattle.webm_files.specs.Packets.{listed_in, packets_in, unlisted_in}
use Rattle.webm_files.proofs.OneAnswer.{walks_are_one}
use Rattle.webm_files.proofs.files.read_contents.Goals as goal

pub returns : goal.returns
returns g c =
    let file = g.B.FileBytes.bytes c.args.file.now in
    let met = c.in_ok-blocks.ensures in
    let gaps : HasGaps file c.in_ok-gaps.gaps = subst (λ f. HasGaps f c.in_ok-gaps.gaps) c.whole.ensures c.in_ok-gaps.ensures in
    let walk : Walk = met.walk in
    let blocks = blocks_of file walk.elements in
    let same : gaps.walk ≡ walk = walks_are_one file gaps.walk walk gaps.is met.is in
    let lengths : HasLengths file c.in_ok-gaps.gaps.is_cut c.in_ok-lengths.lengths.items = subst (λ f. HasLengths f c.in_ok-gaps.gaps.is_cut c.in_ok-lengths.lengths.items) c.whole-2.ensures c.in_ok-lengths.ensures in
    let measured : lengths.walk ≡ walk = walks_are_one file lengths.walk walk lengths.is met.is in
    let numbers = c.as_slice.ensures.value ∙ c.in_ok-numbers.ensures in record {
      walk = walk;
      is = met.is;
      same = refl;
      contents = record {
        packets = met.packets ∙ ap (λ v. packets_in file v blocks) c.number_of-video.ensures;
        spare = gaps.spare ∙ ap (λ (w : Walk). skipped (gaps_of file w)) same;
        video = c.number_of-video.ensures;
        duration = c.number_or.ensures ∙ ap (number_or 0) c.field.ensures;
        numbers = c.in_ok-numbers.ensures;
        blocks = met.listed ∙ ap (λ n. listed_in n blocks) numbers;
        unlisted = met.unlisted ∙ ap (λ n. unlisted_in n blocks) numbers;
        gaps = gaps.gaps ∙ ap (gaps_of file) same;
        parts = gaps.parts ∙ ap (λ (w : Walk). parts_of w.elements) same;
        timeless = gaps.timeless ∙ ap (λ (w : Walk). timeless_of w.elements) same;
        lengths = lengths.lengths ∙ ap (λ (w : Walk). wrong_lengths file c.in_ok-gaps.gaps.is_cut w.elements) measured;
        cut = subst (λ (w : Walk). IsTrue c.in_ok-gaps.gaps.is_cut ↔ IsCut (drop w.end file)) same gaps.cut;
      };
    }
