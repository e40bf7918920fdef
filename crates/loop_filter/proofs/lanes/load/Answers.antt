use Rattle.std.proofs.lemmas.Simd.{get_or-chunk}
use Rattle.loop_filter.proofs.lanes.load.Goals as goal

pub returns : goal.returns
returns c = λ i less. get_or-chunk c.args.at 16 c.args.samples.now i 0 less
