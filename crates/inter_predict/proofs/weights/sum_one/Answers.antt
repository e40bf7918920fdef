use Rattle.std.proofs.Common.{rules}
use Rattle.inter_predict.proofs.SummedLanes.{parts_one}
use Rattle.inter_predict.proofs.weights.sum_one.Goals as goal

pub returns : goal.returns
returns g c = parts_one g.row.N c.args.b c.args.c c.args.d c.args.e c.up.result c.up-2.result c.up-3.result c.fits-b.0 c.fits-c.0 c.fits-d.0 c.fits-e.0 (search rules) (search rules) (search rules) c.requires c.up.ensures c.up-2.ensures c.up-3.ensures
