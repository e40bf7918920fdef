use Rattle.intra_predict.specs.SubSample.{sub_sample}
use Rattle.intra_predict.specs.declared.modes.SubMode.TheVariants.{Vl}
use Rattle.intra_predict.proofs.Places.{is_sixteen}
use Rattle.intra_predict.proofs.sub_blocks.vertical_left.Goals as goal

pub returns : goal.returns
unfolding sub_sample
returns c =
    λ left corner. is_sixteen (sub_sample Vl left corner c.args.above) c.avg2-even0.ensures c.avg2-even1.ensures c.avg2-even2.ensures c.avg2-even3.ensures c.avg3-odd0.ensures c.avg3-odd1.ensures c.avg3-odd2.ensures c.avg3-odd3.ensures c.avg2-even1.ensures c.avg2-even2.ensures c.avg2-even3.ensures c.avg3-last2.ensures c.avg3-odd1.ensures c.avg3-odd2.ensures c.avg3-odd3.ensures c.avg3-last3.ensures
