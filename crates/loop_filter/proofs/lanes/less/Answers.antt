use Rattle.loop_filter.proofs.LaneLemmas.{rest_at}
use Rattle.loop_filter.proofs.lanes.less.Goals as goal

pub returns : goal.returns
returns c = λ i less. rest_at c.args.a c.args.b _ i c.fits-a c.fits-b less
