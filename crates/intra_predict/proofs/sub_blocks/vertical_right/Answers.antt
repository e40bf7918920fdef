use Rattle.intra_predict.specs.SubSample.{sub_sample}
use Rattle.intra_predict.specs.declared.modes.SubMode.TheVariants.{Vr}
use Rattle.intra_predict.proofs.Places.{is_sixteen}
use Rattle.intra_predict.proofs.sub_blocks.vertical_right.Goals as goal

pub returns : goal.returns
unfolding sub_sample
returns c =
    is_sixteen (sub_sample Vr c.args.left c.args.corner c.args.above) c.avg2-even0.ensures c.avg2-even1.ensures c.avg2-even2.ensures c.avg2-even3.ensures c.avg3-odd0.ensures c.avg3-odd1.ensures c.avg3-odd2.ensures c.avg3-odd3.ensures c.avg3-first2.ensures c.avg2-even0.ensures c.avg2-even1.ensures c.avg2-even2.ensures c.avg3-first3.ensures c.avg3-odd0.ensures c.avg3-odd1.ensures c.avg3-odd2.ensures
