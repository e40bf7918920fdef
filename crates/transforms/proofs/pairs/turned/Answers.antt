use Rattle.std.proofs.Common.{arith}
use Rattle.transforms.proofs.PairLanes.{turned_lanes}
use Rattle.transforms.proofs.pairs.turned.Goals as goal

pub returns-clause-first : goal.returns-clause-first
returns-clause-first c = turned_lanes c.args.v0 c.args.v1 c.args.v2 c.args.v3 0 1 (omega arith, c.requires.0) (omega arith, c.requires.1) (omega arith, c.requires.2) (omega arith, c.requires.3) (omega arith) (omega arith)

pub returns-clause-second : goal.returns-clause-second
returns-clause-second c = turned_lanes c.args.v0 c.args.v1 c.args.v2 c.args.v3 2 3 (omega arith, c.requires.0) (omega arith, c.requires.1) (omega arith, c.requires.2) (omega arith, c.requires.3) (omega arith) (omega arith)

pub returns-clause-third : goal.returns-clause-third
returns-clause-third c = turned_lanes c.args.v0 c.args.v1 c.args.v2 c.args.v3 4 5 (omega arith, c.requires.0) (omega arith, c.requires.1) (omega arith, c.requires.2) (omega arith, c.requires.3) (omega arith) (omega arith)

pub returns-clause-fourth : goal.returns-clause-fourth
returns-clause-fourth c = turned_lanes c.args.v0 c.args.v1 c.args.v2 c.args.v3 6 7 (omega arith, c.requires.0) (omega arith, c.requires.1) (omega arith, c.requires.2) (omega arith, c.requires.3) (omega arith) (omega arith)
