use Rattle.loop_filter.proofs.LaneLemmas.{sum_at}
use Rattle.loop_filter.proofs.lanes.more.Goals as goal

pub returns : goal.returns
returns c = λ i less. sum_at c.args.a c.args.b _ i c.fits-a c.fits-b.0 less
