use Rattle.std.proofs.Common.{◌/◌, ◌%◌, ◌∙◌, ap, sym, refl}
use Rattle.webm_files.specs.declared.ids.TheConstants.{PIXEL_HEIGHT, PIXEL_WIDTH}
use Rattle.webm_files.specs.Children.{field, number_or}
use Rattle.webm_files.proofs.tracks.head_of.Goals as goal

pub returns : goal.returns
returns c =
    let common = c.common_divisor-common.result in record {
      width = ap (λ n. n % 65536) (c.number_or.ensures ∙ ap (number_or 0) c.field.ensures ∙ ap (λ v. number_or 0 (field PIXEL_WIDTH v)) c.field-video.ensures);
      height = ap (λ n. n % 65536) (c.number_or-2.ensures ∙ ap (number_or 0) c.field-2.ensures ∙ ap (λ v. number_or 0 (field PIXEL_HEIGHT v)) c.field-video.ensures);
      rate = record {
        common = common;
        divisor = rw (sym c.from.ensures) c.common_divisor-common.ensures.divisor;
        first = refl;
        second = ap (λ n. n / common) c.from-2.ensures;
      };
    }
