use Rattle.std.proofs.Common.{[], ap, sym, ◌∙◌, option_map, unwrap_or}
use Rattle.webm_files.specs.Blocks.{content}
use Rattle.webm_files.specs.Children.{children_up_to}
use Rattle.webm_files.specs.Tracks.{codec_in}
use Rattle.webm_files.proofs.files.codec_there.Goals as goal

pub returns-in-None : goal.returns-in-None
unfolding children_up_to
returns-in-None c =
    let survey = c.read_survey.ensures.is in record {
      walk = survey.walk;
      is = survey.is;
      found = ap (λ t. codec_in (unwrap_or (option_map (content c.args.bytes.now) t) [])) (sym c.in-None.is ∙ survey.tracks);
    }
