use Rattle.std.proofs.Common.{◌≡◌, ◌+◌, ◌/◌, ◌++◌, take, rules}
use Rattle.intra_predict.specs.Means.{mean_of}
use Rattle.intra_predict.specs.SubSample.{sub_sample}
use Rattle.intra_predict.specs.declared.modes.SubMode.TheVariants.{Dc}
use Rattle.intra_predict.proofs.MeanLemmas.{mean_of_eight}
use Rattle.intra_predict.proofs.Places.{is_sixteen}
use Rattle.intra_predict.proofs.sub_blocks.mean_of_sides.Goals as goal

pub returns : goal.returns
unfolding sub_sample
returns c = λ corner.
    let mean : (c.sum_of.result + c.sum_of-2.result + 4) / 8 ≡ mean_of (take 4 c.args.above ++ c.args.left) = mean_of_eight c.args.above c.args.left _ _ (search rules) (search rules) c.sum_of.ensures.value c.sum_of-2.ensures.value in
    is_sixteen (sub_sample Dc c.args.left corner c.args.above) mean mean mean mean mean mean mean mean mean mean mean mean mean mean mean mean
