use Rattle.std.proofs.Common.{◌≡◌, length, arith}
use Rattle.loop_filter.proofs.Transposed.{sixteen_lanes}
use Rattle.loop_filter.proofs.columns.columns.Goals as goal

pub returns-clause-p3 : goal.returns-clause-p3
returns-clause-p3 c = sixteen_lanes c.args.lines.0 c.args.lines.1 c.args.lines.2 c.args.lines.3 c.args.lines.4 c.args.lines.5 c.args.lines.6 c.args.lines.7 0 1 (let long : length c.args.lines.0 ≡ 16 = search in long) (let long : length c.args.lines.1 ≡ 16 = search in long) (let long : length c.args.lines.2 ≡ 16 = search in long) (let long : length c.args.lines.3 ≡ 16 = search in long) (omega arith) (omega arith)

pub returns-clause-p2 : goal.returns-clause-p2
returns-clause-p2 c = sixteen_lanes c.args.lines.0 c.args.lines.1 c.args.lines.2 c.args.lines.3 c.args.lines.4 c.args.lines.5 c.args.lines.6 c.args.lines.7 2 3 (let long : length c.args.lines.0 ≡ 16 = search in long) (let long : length c.args.lines.1 ≡ 16 = search in long) (let long : length c.args.lines.2 ≡ 16 = search in long) (let long : length c.args.lines.3 ≡ 16 = search in long) (omega arith) (omega arith)

pub returns-clause-p1 : goal.returns-clause-p1
returns-clause-p1 c = sixteen_lanes c.args.lines.0 c.args.lines.1 c.args.lines.2 c.args.lines.3 c.args.lines.4 c.args.lines.5 c.args.lines.6 c.args.lines.7 4 5 (let long : length c.args.lines.0 ≡ 16 = search in long) (let long : length c.args.lines.1 ≡ 16 = search in long) (let long : length c.args.lines.2 ≡ 16 = search in long) (let long : length c.args.lines.3 ≡ 16 = search in long) (omega arith) (omega arith)

pub returns-clause-p0 : goal.returns-clause-p0
returns-clause-p0 c = sixteen_lanes c.args.lines.0 c.args.lines.1 c.args.lines.2 c.args.lines.3 c.args.lines.4 c.args.lines.5 c.args.lines.6 c.args.lines.7 6 7 (let long : length c.args.lines.0 ≡ 16 = search in long) (let long : length c.args.lines.1 ≡ 16 = search in long) (let long : length c.args.lines.2 ≡ 16 = search in long) (let long : length c.args.lines.3 ≡ 16 = search in long) (omega arith) (omega arith)

pub returns-clause-q0 : goal.returns-clause-q0
returns-clause-q0 c = sixteen_lanes c.args.lines.0 c.args.lines.1 c.args.lines.2 c.args.lines.3 c.args.lines.4 c.args.lines.5 c.args.lines.6 c.args.lines.7 8 9 (let long : length c.args.lines.0 ≡ 16 = search in long) (let long : length c.args.lines.1 ≡ 16 = search in long) (let long : length c.args.lines.2 ≡ 16 = search in long) (let long : length c.args.lines.3 ≡ 16 = search in long) (omega arith) (omega arith)

pub returns-clause-q1 : goal.returns-clause-q1
returns-clause-q1 c = sixteen_lanes c.args.lines.0 c.args.lines.1 c.args.lines.2 c.args.lines.3 c.args.lines.4 c.args.lines.5 c.args.lines.6 c.args.lines.7 10 11 (let long : length c.args.lines.0 ≡ 16 = search in long) (let long : length c.args.lines.1 ≡ 16 = search in long) (let long : length c.args.lines.2 ≡ 16 = search in long) (let long : length c.args.lines.3 ≡ 16 = search in long) (omega arith) (omega arith)

pub returns-clause-q2 : goal.returns-clause-q2
returns-clause-q2 c = sixteen_lanes c.args.lines.0 c.args.lines.1 c.args.lines.2 c.args.lines.3 c.args.lines.4 c.args.lines.5 c.args.lines.6 c.args.lines.7 12 13 (let long : length c.args.lines.0 ≡ 16 = search in long) (let long : length c.args.lines.1 ≡ 16 = search in long) (let long : length c.args.lines.2 ≡ 16 = search in long) (let long : length c.args.lines.3 ≡ 16 = search in long) (omega arith) (omega arith)

pub returns-clause-q3 : goal.returns-clause-q3
returns-clause-q3 c = sixteen_lanes c.args.lines.0 c.args.lines.1 c.args.lines.2 c.args.lines.3 c.args.lines.4 c.args.lines.5 c.args.lines.6 c.args.lines.7 14 15 (let long : length c.args.lines.0 ≡ 16 = search in long) (let long : length c.args.lines.1 ≡ 16 = search in long) (let long : length c.args.lines.2 ≡ 16 = search in long) (let long : length c.args.lines.3 ≡ 16 = search in long) (omega arith) (omega arith)
