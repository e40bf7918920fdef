use Rattle.std.proofs.Common.{rules}
use Rattle.inter_predict.proofs.SummedLanes.{parts_three}
use Rattle.inter_predict.proofs.weights.sum_three.Goals as goal

pub returns : goal.returns
returns g c = parts_three g.row.N c.args.b c.args.c c.args.d c.args.e c.up.result c.up-2.result c.thrice.result c.thrice-2.result c.fits-c.0 c.fits-d.0 c.fits-e.0 (search rules) (search rules) (search rules) (search rules) c.requires c.up.ensures c.up-2.ensures c.thrice.ensures c.thrice-2.ensures
