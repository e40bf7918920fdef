use Rattle.transforms.proofs.MovedRows.{clamped_rests}
use Rattle.transforms.proofs.firsts.clamped_rests.Goals as goal

pub returns : goal.returns
returns g c = clamped_rests c.args.first c.args.second c.fits-first.1 c.fits-second.1
