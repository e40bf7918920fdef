use Rattle.std.proofs.Common.{arith}
use Rattle.transforms.proofs.PairLanes.{cosine_lanes, cosine_products}
use Rattle.transforms.proofs.pairs.times_cosine.Goals as goal

pub overflow_cast-result : goal.overflow_cast-result
overflow_cast-result c = cosine_products c.args.lanes (omega arith) c.requires

pub returns : goal.returns
returns c = cosine_lanes c.args.lanes (omega arith) c.requires
