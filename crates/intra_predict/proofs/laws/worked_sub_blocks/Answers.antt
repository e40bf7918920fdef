use Rattle.std.proofs.Common.{refl}
use Rattle.intra_predict.specs.Means.{mean_of, mean_of_two, mean_of_three, gradient}
use Rattle.intra_predict.specs.SubSample.{sub_sample}
use Rattle.intra_predict.proofs.laws.worked_sub_blocks.Goals as goal

pub returns : goal.returns
unfolding mean_of mean_of_two mean_of_three gradient sub_sample
returns c = record {
  mean = refl;
  true_motion = refl;
  true_motion_below = refl;
  vertical = refl;
  horizontal_first = refl;
  horizontal_last = refl;
  left_down = refl;
  right_down = refl;
  vertical_right_even = refl;
  vertical_right_odd = refl;
  vertical_left_even = refl;
  vertical_left_odd = refl;
  horizontal_down_first = refl;
  horizontal_down = refl;
  horizontal_up = refl;
  horizontal_up_end = refl;
}
