use Rattle.std.proofs.Common.{refl}
use Rattle.intra_predict.specs.Means.{mean_of, gradient}
use Rattle.intra_predict.specs.WholeSample.{whole_sample}
use Rattle.intra_predict.proofs.laws.worked_sides_in_place.Goals as goal

pub returns : goal.returns
unfolding mean_of gradient whole_sample
returns c = record {
  above = refl;
  above_the_frame = refl;
  left = refl;
  left_of_the_frame = refl;
  corner = refl;
  corner_above_the_frame = refl;
  corner_left_of_the_frame = refl;
  corner_of_the_frame = refl;
  true_motion = refl;
  mean = refl;
}
