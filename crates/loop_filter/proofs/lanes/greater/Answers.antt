use Rattle.loop_filter.proofs.LaneLemmas.{greater_at}
use Rattle.loop_filter.proofs.lanes.greater.Goals as goal

pub returns : goal.returns
returns c = λ i less. greater_at c.args.a c.args.b _ i c.fits-a.0 c.fits-b.0 less
