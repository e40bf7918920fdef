use Rattle.std.proofs.Common.{arith}
use Rattle.transforms.proofs.SmallLanes.{small_lanes}
use Rattle.transforms.proofs.pairs.are_small.Goals as goal

pub returns : goal.returns
returns c = small_lanes c.args.v0 c.args.v1 c.args.v2 c.args.v3 (omega arith) (omega arith) (omega arith) (omega arith) c.requires.0 c.requires.1 c.requires.2 c.requires.3
