use Rattle.std.proofs.Common.{◌≡◌, ◌++◌, ◌∙◌, ap, List}
use Rattle.webm_files.specs.declared.ids.TheConstants.{CLUSTER, SEGMENT}
use Rattle.webm_files.specs.declared.lengths.WrongLength.{WrongLength}
use Rattle.webm_files.specs.Walks.{Walk}
use Rattle.webm_files.specs.Lengths.{wrong_at}
use Rattle.webm_files.proofs.OneAnswer.{walks_are_one}
use Rattle.webm_files.proofs.lengths.read_lengths.Goals as goal

pub returns : goal.returns
returns c =
    let file = c.args.bytes.now in
    let is_cut = c.args.is_cut in
    let one = c.in_ok-push_lengths.ensures in
    let other = c.in_ok-push_lengths-2.ensures in
    let same : one.walk ≡ other.walk = walks_are_one file one.walk other.walk one.is other.is in record {
      walk = other.walk;
      is = other.is;
      lengths = other.added
          ∙ ap (λ (some : List WrongLength). some ++ wrong_at file is_cut CLUSTER other.walk.elements)
          (one.added ∙ ap (λ (some : List WrongLength). some ++ wrong_at file is_cut SEGMENT one.walk.elements) c.new-lengths.ensures.items ∙ ap (λ (w : Walk). wrong_at file is_cut SEGMENT w.elements) same);
    }
