use Rattle.std.proofs.Common.{arith}
use Rattle.transforms.proofs.PairLanes.{sine_lanes, sine_products}
use Rattle.transforms.proofs.pairs.times_sine.Goals as goal

pub overflow_cast-result : goal.overflow_cast-result
overflow_cast-result c = sine_products c.args.lanes (omega arith) c.requires

pub returns : goal.returns
returns c = sine_lanes c.args.lanes (omega arith) c.requires
