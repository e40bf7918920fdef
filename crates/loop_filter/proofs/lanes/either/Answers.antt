use Rattle.loop_filter.proofs.LaneLemmas.{either_at}
use Rattle.loop_filter.proofs.lanes.either.Goals as goal

pub returns : goal.returns
returns c = λ i less. either_at c.args.test c.args.none c.args.other _ i c.fits-test.0 c.fits-none.0 c.fits-other.0 less
