use Rattle.intra_predict.specs.SubSample.{sub_sample}
use Rattle.intra_predict.specs.declared.modes.SubMode.TheVariants.{He}
use Rattle.intra_predict.proofs.Places.{is_sixteen}
use Rattle.intra_predict.proofs.sub_blocks.horizontal.Goals as goal

pub returns : goal.returns
unfolding sub_sample
returns c =
    λ above. is_sixteen (sub_sample He c.args.left c.args.corner above) c.avg3-row0.ensures c.avg3-row0.ensures c.avg3-row0.ensures c.avg3-row0.ensures c.avg3-row1.ensures c.avg3-row1.ensures c.avg3-row1.ensures c.avg3-row1.ensures c.avg3-row2.ensures c.avg3-row2.ensures c.avg3-row2.ensures c.avg3-row2.ensures c.avg3-row3.ensures c.avg3-row3.ensures c.avg3-row3.ensures c.avg3-row3.ensures
