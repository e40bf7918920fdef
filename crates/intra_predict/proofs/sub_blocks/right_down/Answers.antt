use Rattle.intra_predict.specs.SubSample.{sub_sample}
use Rattle.intra_predict.specs.declared.modes.SubMode.TheVariants.{Rd}
use Rattle.intra_predict.proofs.Places.{is_sixteen}
use Rattle.intra_predict.proofs.sub_blocks.right_down.Goals as goal

pub returns : goal.returns
unfolding sub_sample
returns c =
    is_sixteen (sub_sample Rd c.args.left c.args.corner c.args.above) c.avg3-diagonal3.ensures c.avg3-diagonal4.ensures c.avg3-diagonal5.ensures c.avg3-diagonal6.ensures c.avg3-diagonal2.ensures c.avg3-diagonal3.ensures c.avg3-diagonal4.ensures c.avg3-diagonal5.ensures c.avg3-diagonal1.ensures c.avg3-diagonal2.ensures c.avg3-diagonal3.ensures c.avg3-diagonal4.ensures c.avg3-diagonal0.ensures c.avg3-diagonal1.ensures c.avg3-diagonal2.ensures c.avg3-diagonal3.ensures
