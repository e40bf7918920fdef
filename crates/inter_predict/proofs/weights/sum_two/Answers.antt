use Rattle.std.proofs.Common.{rules}
use Rattle.inter_predict.proofs.SummedLanes.{parts_two}
use Rattle.inter_predict.proofs.weights.sum_two.Goals as goal

pub returns : goal.returns
returns g c = parts_two g.row.N c.args.a c.args.b c.args.c c.args.d c.args.e c.args.f c.thrice.result c.thrice-2.result c.up.result c.up-2.result c.fits-a.0 c.fits-b.0 c.fits-d.0 c.fits-e.0 c.fits-f.0 (search rules) (search rules) (search rules) (search rules) c.requires c.thrice.ensures c.thrice-2.ensures c.up.ensures c.up-2.ensures
