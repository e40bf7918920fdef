use Rattle.std.proofs.Common.{◌≡◌, length, arith}
use Rattle.loop_filter.proofs.Transposed.{sixteen_lanes}
use Rattle.loop_filter.proofs.columns.row_pairs.Goals as goal

pub returns-clause-r0 : goal.returns-clause-r0
returns-clause-r0 c = sixteen_lanes c.args.taps.p3 c.args.taps.p2 c.args.taps.p1 c.args.taps.p0 c.args.taps.q0 c.args.taps.q1 c.args.taps.q2 c.args.taps.q3 0 1 (let long : length c.args.taps.p3 ≡ 16 = search in long) (let long : length c.args.taps.p2 ≡ 16 = search in long) (let long : length c.args.taps.p1 ≡ 16 = search in long) (let long : length c.args.taps.p0 ≡ 16 = search in long) (omega arith) (omega arith)

pub returns-clause-r2 : goal.returns-clause-r2
returns-clause-r2 c = sixteen_lanes c.args.taps.p3 c.args.taps.p2 c.args.taps.p1 c.args.taps.p0 c.args.taps.q0 c.args.taps.q1 c.args.taps.q2 c.args.taps.q3 2 3 (let long : length c.args.taps.p3 ≡ 16 = search in long) (let long : length c.args.taps.p2 ≡ 16 = search in long) (let long : length c.args.taps.p1 ≡ 16 = search in long) (let long : length c.args.taps.p0 ≡ 16 = search in long) (omega arith) (omega arith)

pub returns-clause-r4 : goal.returns-clause-r4
returns-clause-r4 c = sixteen_lanes c.args.taps.p3 c.args.taps.p2 c.args.taps.p1 c.args.taps.p0 c.args.taps.q0 c.args.taps.q1 c.args.taps.q2 c.args.taps.q3 4 5 (let long : length c.args.taps.p3 ≡ 16 = search in long) (let long : length c.args.taps.p2 ≡ 16 = search in long) (let long : length c.args.taps.p1 ≡ 16 = search in long) (let long : length c.args.taps.p0 ≡ 16 = search in long) (omega arith) (omega arith)

pub returns-clause-r6 : goal.returns-clause-r6
returns-clause-r6 c = sixteen_lanes c.args.taps.p3 c.args.taps.p2 c.args.taps.p1 c.args.taps.p0 c.args.taps.q0 c.args.taps.q1 c.args.taps.q2 c.args.taps.q3 6 7 (let long : length c.args.taps.p3 ≡ 16 = search in long) (let long : length c.args.taps.p2 ≡ 16 = search in long) (let long : length c.args.taps.p1 ≡ 16 = search in long) (let long : length c.args.taps.p0 ≡ 16 = search in long) (omega arith) (omega arith)

pub returns-clause-r8 : goal.returns-clause-r8
returns-clause-r8 c = sixteen_lanes c.args.taps.p3 c.args.taps.p2 c.args.taps.p1 c.args.taps.p0 c.args.taps.q0 c.args.taps.q1 c.args.taps.q2 c.args.taps.q3 8 9 (let long : length c.args.taps.p3 ≡ 16 = search in long) (let long : length c.args.taps.p2 ≡ 16 = search in long) (let long : length c.args.taps.p1 ≡ 16 = search in long) (let long : length c.args.taps.p0 ≡ 16 = search in long) (omega arith) (omega arith)

pub returns-clause-r10 : goal.returns-clause-r10
returns-clause-r10 c = sixteen_lanes c.args.taps.p3 c.args.taps.p2 c.args.taps.p1 c.args.taps.p0 c.args.taps.q0 c.args.taps.q1 c.args.taps.q2 c.args.taps.q3 10 11 (let long : length c.args.taps.p3 ≡ 16 = search in long) (let long : length c.args.taps.p2 ≡ 16 = search in long) (let long : length c.args.taps.p1 ≡ 16 = search in long) (let long : length c.args.taps.p0 ≡ 16 = search in long) (omega arith) (omega arith)

pub returns-clause-r12 : goal.returns-clause-r12
returns-clause-r12 c = sixteen_lanes c.args.taps.p3 c.args.taps.p2 c.args.taps.p1 c.args.taps.p0 c.args.taps.q0 c.args.taps.q1 c.args.taps.q2 c.args.taps.q3 12 13 (let long : length c.args.taps.p3 ≡ 16 = search in long) (let long : length c.args.taps.p2 ≡ 16 = search in long) (let long : length c.args.taps.p1 ≡ 16 = search in long) (let long : length c.args.taps.p0 ≡ 16 = search in long) (omega arith) (omega arith)

pub returns-clause-r14 : goal.returns-clause-r14
returns-clause-r14 c = sixteen_lanes c.args.taps.p3 c.args.taps.p2 c.args.taps.p1 c.args.taps.p0 c.args.taps.q0 c.args.taps.q1 c.args.taps.q2 c.args.taps.q3 14 15 (let long : length c.args.taps.p3 ≡ 16 = search in long) (let long : length c.args.taps.p2 ≡ 16 = search in long) (let long : length c.args.taps.p1 ≡ 16 = search in long) (let long : length c.args.taps.p0 ≡ 16 = search in long) (omega arith) (omega arith)
