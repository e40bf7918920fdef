use Rattle.intra_predict.specs.SubSample.{sub_sample}
use Rattle.intra_predict.specs.declared.modes.SubMode.TheVariants.{Ve}
use Rattle.intra_predict.proofs.Places.{is_sixteen}
use Rattle.intra_predict.proofs.sub_blocks.vertical.Goals as goal

pub returns : goal.returns
unfolding sub_sample
returns c =
    λ left. is_sixteen (sub_sample Ve left c.args.corner c.args.above) c.avg3-column0.ensures c.avg3-column1.ensures c.avg3-column2.ensures c.avg3-column3.ensures c.avg3-column0.ensures c.avg3-column1.ensures c.avg3-column2.ensures c.avg3-column3.ensures c.avg3-column0.ensures c.avg3-column1.ensures c.avg3-column2.ensures c.avg3-column3.ensures c.avg3-column0.ensures c.avg3-column1.ensures c.avg3-column2.ensures c.avg3-column3.ensures
