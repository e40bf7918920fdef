use Rattle.std.proofs.Common.{refl}
use Rattle.pixel_planes.specs.ReferenceSamples.{reference_sample}
use Rattle.inter_predict.specs.InterSample.{filtered, between, inter_sample}
use Rattle.inter_predict.proofs.laws.worked_filters.Goals as goal

pub returns : goal.returns
unfolding reference_sample filtered between inter_sample
returns c = record {
  rising = refl;
  clamped_at_0 = refl;
  clamped_at_255 = refl;
  bilinear = refl;
  across_first = refl;
  rounded_down = refl;
  left_over = refl;
}
