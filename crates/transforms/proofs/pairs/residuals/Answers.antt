use Rattle.std.proofs.Common.{arith}
use Rattle.transforms.proofs.PairLanes.{read_lanes}
use Rattle.transforms.proofs.SecondPass.{AreAll, AreColumns, IsPassed, low_row, high_row}
use Rattle.transforms.proofs.pairs.residuals.Goals as goal

pub passed-requires : goal.passed-requires
passed-requires c = (read_lanes _, read_lanes _, read_lanes _, read_lanes _)

pub turned-requires : goal.turned-requires
turned-requires c = (read_lanes _, read_lanes _, read_lanes _, read_lanes _)

pub returns-clause-first : goal.returns-clause-first
returns-clause-first c =
    let v0 = c.args.i0 in
    let v1 = c.args.i1 in
    let v2 = c.args.i2 in
    let v3 = c.args.i3 in
    let lanes = c.requires.lanes in
    let small = c.requires.small in
    let columns : AreColumns v0 v1 v2 v3 = record { long0 = omega arith; long1 = omega arith; long2 = omega arith; long3 = omega arith; small0 = small.0; small1 = small.1; small2 = small.2; small3 = small.3 } in
    let passed0 : IsPassed 0 v0 v1 v2 v3 c.passed.result.0 = record { is = c.passed.ensures.first; fits1 = lanes.1; fits2 = lanes.2; fits3 = lanes.3 } in
    let passed1 : IsPassed 1 v0 v1 v2 v3 c.passed.result.1 = record { is = c.passed.ensures.second; fits1 = lanes.1; fits2 = lanes.2; fits3 = lanes.3 } in
    let passed2 : IsPassed 2 v0 v1 v2 v3 c.passed.result.2 = record { is = c.passed.ensures.third; fits1 = lanes.1; fits2 = lanes.2; fits3 = lanes.3 } in
    let passed3 : IsPassed 3 v0 v1 v2 v3 c.passed.result.3 = record { is = c.passed.ensures.fourth; fits1 = lanes.1; fits2 = lanes.2; fits3 = lanes.3 } in
    let are : AreAll v0 v1 v2 v3 c.passed.result.0 c.passed.result.1 c.passed.result.2 c.passed.result.3 = record { columns = columns; passed0 = passed0; passed1 = passed1; passed2 = passed2; passed3 = passed3 } in
    low_row v0 v1 v2 v3 c.passed.result.0 c.passed.result.1 c.passed.result.2 c.passed.result.3 c.turned.result.0 c.turned.result.2 0 1 4 5 are (omega arith) (omega arith) c.turned.ensures.first c.turned.ensures.third

pub returns-clause-second : goal.returns-clause-second
returns-clause-second c =
    let v0 = c.args.i0 in
    let v1 = c.args.i1 in
    let v2 = c.args.i2 in
    let v3 = c.args.i3 in
    let lanes = c.requires.lanes in
    let small = c.requires.small in
    let columns : AreColumns v0 v1 v2 v3 = record { long0 = omega arith; long1 = omega arith; long2 = omega arith; long3 = omega arith; small0 = small.0; small1 = small.1; small2 = small.2; small3 = small.3 } in
    let passed0 : IsPassed 0 v0 v1 v2 v3 c.passed.result.0 = record { is = c.passed.ensures.first; fits1 = lanes.1; fits2 = lanes.2; fits3 = lanes.3 } in
    let passed1 : IsPassed 1 v0 v1 v2 v3 c.passed.result.1 = record { is = c.passed.ensures.second; fits1 = lanes.1; fits2 = lanes.2; fits3 = lanes.3 } in
    let passed2 : IsPassed 2 v0 v1 v2 v3 c.passed.result.2 = record { is = c.passed.ensures.third; fits1 = lanes.1; fits2 = lanes.2; fits3 = lanes.3 } in
    let passed3 : IsPassed 3 v0 v1 v2 v3 c.passed.result.3 = record { is = c.passed.ensures.fourth; fits1 = lanes.1; fits2 = lanes.2; fits3 = lanes.3 } in
    let are : AreAll v0 v1 v2 v3 c.passed.result.0 c.passed.result.1 c.passed.result.2 c.passed.result.3 = record { columns = columns; passed0 = passed0; passed1 = passed1; passed2 = passed2; passed3 = passed3 } in
    high_row v0 v1 v2 v3 c.passed.result.0 c.passed.result.1 c.passed.result.2 c.passed.result.3 c.turned.result.0 c.turned.result.2 0 1 4 5 are (omega arith) (omega arith) c.turned.ensures.first c.turned.ensures.third

pub returns-clause-third : goal.returns-clause-third
returns-clause-third c =
    let v0 = c.args.i0 in
    let v1 = c.args.i1 in
    let v2 = c.args.i2 in
    let v3 = c.args.i3 in
    let lanes = c.requires.lanes in
    let small = c.requires.small in
    let columns : AreColumns v0 v1 v2 v3 = record { long0 = omega arith; long1 = omega arith; long2 = omega arith; long3 = omega arith; small0 = small.0; small1 = small.1; small2 = small.2; small3 = small.3 } in
    let passed0 : IsPassed 0 v0 v1 v2 v3 c.passed.result.0 = record { is = c.passed.ensures.first; fits1 = lanes.1; fits2 = lanes.2; fits3 = lanes.3 } in
    let passed1 : IsPassed 1 v0 v1 v2 v3 c.passed.result.1 = record { is = c.passed.ensures.second; fits1 = lanes.1; fits2 = lanes.2; fits3 = lanes.3 } in
    let passed2 : IsPassed 2 v0 v1 v2 v3 c.passed.result.2 = record { is = c.passed.ensures.third; fits1 = lanes.1; fits2 = lanes.2; fits3 = lanes.3 } in
    let passed3 : IsPassed 3 v0 v1 v2 v3 c.passed.result.3 = record { is = c.passed.ensures.fourth; fits1 = lanes.1; fits2 = lanes.2; fits3 = lanes.3 } in
    let are : AreAll v0 v1 v2 v3 c.passed.result.0 c.passed.result.1 c.passed.result.2 c.passed.result.3 = record { columns = columns; passed0 = passed0; passed1 = passed1; passed2 = passed2; passed3 = passed3 } in
    low_row v0 v1 v2 v3 c.passed.result.0 c.passed.result.1 c.passed.result.2 c.passed.result.3 c.turned.result.1 c.turned.result.3 2 3 6 7 are (omega arith) (omega arith) c.turned.ensures.second c.turned.ensures.fourth

pub returns-clause-fourth : goal.returns-clause-fourth
returns-clause-fourth c =
    let v0 = c.args.i0 in
    let v1 = c.args.i1 in
    let v2 = c.args.i2 in
    let v3 = c.args.i3 in
    let lanes = c.requires.lanes in
    let small = c.requires.small in
    let columns : AreColumns v0 v1 v2 v3 = record { long0 = omega arith; long1 = omega arith; long2 = omega arith; long3 = omega arith; small0 = small.0; small1 = small.1; small2 = small.2; small3 = small.3 } in
    let passed0 : IsPassed 0 v0 v1 v2 v3 c.passed.result.0 = record { is = c.passed.ensures.first; fits1 = lanes.1; fits2 = lanes.2; fits3 = lanes.3 } in
    let passed1 : IsPassed 1 v0 v1 v2 v3 c.passed.result.1 = record { is = c.passed.ensures.second; fits1 = lanes.1; fits2 = lanes.2; fits3 = lanes.3 } in
    let passed2 : IsPassed 2 v0 v1 v2 v3 c.passed.result.2 = record { is = c.passed.ensures.third; fits1 = lanes.1; fits2 = lanes.2; fits3 = lanes.3 } in
    let passed3 : IsPassed 3 v0 v1 v2 v3 c.passed.result.3 = record { is = c.passed.ensures.fourth; fits1 = lanes.1; fits2 = lanes.2; fits3 = lanes.3 } in
    let are : AreAll v0 v1 v2 v3 c.passed.result.0 c.passed.result.1 c.passed.result.2 c.passed.result.3 = record { columns = columns; passed0 = passed0; passed1 = passed1; passed2 = passed2; passed3 = passed3 } in
    high_row v0 v1 v2 v3 c.passed.result.0 c.passed.result.1 c.passed.result.2 c.passed.result.3 c.turned.result.1 c.turned.result.3 2 3 6 7 are (omega arith) (omega arith) c.turned.ensures.second c.turned.ensures.fourth
