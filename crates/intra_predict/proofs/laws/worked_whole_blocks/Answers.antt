use Rattle.std.proofs.Common.{refl}
use Rattle.intra_predict.specs.Means.{mean_of, gradient}
use Rattle.intra_predict.specs.WholeSample.{whole_sample}
use Rattle.intra_predict.proofs.laws.worked_whole_blocks.Goals as goal

pub returns : goal.returns
unfolding mean_of gradient whole_sample
returns c = record {
  mean_of_both = refl;
  mean_of_above = refl;
  mean_of_left = refl;
  mean_of_none = refl;
  vertical = refl;
  below_the_edge = refl;
  horizontal = refl;
  next_to_the_edge = refl;
  true_motion = refl;
  true_motion_low = refl;
  true_motion_high = refl;
}
