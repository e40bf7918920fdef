use Rattle.loop_filter.proofs.LaneLemmas.{shifted_at}
use Rattle.loop_filter.proofs.lanes.eighths.Goals as goal

pub returns : goal.returns
returns c = λ i less. shifted_at 3 c.args.a _ i c.fits-a.0 less
