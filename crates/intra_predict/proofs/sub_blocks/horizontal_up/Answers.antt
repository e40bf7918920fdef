use Rattle.std.proofs.Common.{sym}
use Rattle.intra_predict.proofs.MeanLemmas.{mean_of_two-same, mean_of_three-same}
use Rattle.intra_predict.specs.SubSample.{sub_sample}
use Rattle.intra_predict.specs.declared.modes.SubMode.TheVariants.{Hu}
use Rattle.intra_predict.proofs.Places.{is_sixteen}
use Rattle.intra_predict.proofs.sub_blocks.horizontal_up.Goals as goal

pub returns : goal.returns
unfolding sub_sample
returns c =
    λ corner above. is_sixteen (sub_sample Hu c.args.left corner above) c.avg2-even0.ensures c.avg3-odd0.ensures c.avg2-even1.ensures c.avg3-odd1.ensures c.avg2-even1.ensures c.avg3-odd1.ensures c.avg2-even2.ensures c.avg3-odd2.ensures c.avg2-even2.ensures c.avg3-odd2.ensures (sym (mean_of_two-same _)) (sym (mean_of_three-same _)) (sym (mean_of_two-same _)) (sym (mean_of_three-same _)) (sym (mean_of_two-same _)) (sym (mean_of_three-same _))
