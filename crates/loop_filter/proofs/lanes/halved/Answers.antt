use Rattle.loop_filter.proofs.LaneLemmas.{shifted_at}
use Rattle.loop_filter.proofs.lanes.halved.Goals as goal

pub returns : goal.returns
returns c = λ i less. shifted_at 1 c.args.a _ i c.fits-a.0 less
