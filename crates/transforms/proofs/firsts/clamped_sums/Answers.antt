use Rattle.transforms.proofs.MovedRows.{clamped_sums}
use Rattle.transforms.proofs.firsts.clamped_sums.Goals as goal

pub returns : goal.returns
returns g c = clamped_sums c.args.first c.args.second c.fits-first.1
