use Rattle.loop_filter.specs.Lanes.{interleaved_halves}
use Rattle.loop_filter.proofs.Wide.{three_rounds}
use Rattle.loop_filter.proofs.wide_columns.transposed.Goals as goal

pub returns-clause-v0 : goal.returns-clause-v0
unfolding interleaved_halves
returns-clause-v0 c =
    three_rounds (interleaved_halves 0) (interleaved_halves 0) (interleaved_halves 0) c.args.lines.0 c.args.lines.1 c.args.lines.2 c.args.lines.3 c.args.lines.4 c.args.lines.5 c.args.lines.6 c.args.lines.7 c.interleaved.result.0 c.interleaved-2.result.0 c.interleaved-3.result.0 c.interleaved-4.result.0 c.interleaved-5.result.0 c.interleaved-7.result.0 c.interleaved-9.result.0
    c.interleaved.ensures.first c.interleaved-2.ensures.first c.interleaved-3.ensures.first c.interleaved-4.ensures.first c.interleaved-5.ensures.first c.interleaved-7.ensures.first c.interleaved-9.ensures.first

pub returns-clause-v1 : goal.returns-clause-v1
unfolding interleaved_halves
returns-clause-v1 c =
    three_rounds (interleaved_halves 0) (interleaved_halves 0) (interleaved_halves 8) c.args.lines.0 c.args.lines.1 c.args.lines.2 c.args.lines.3 c.args.lines.4 c.args.lines.5 c.args.lines.6 c.args.lines.7 c.interleaved.result.0 c.interleaved-2.result.0 c.interleaved-3.result.0 c.interleaved-4.result.0 c.interleaved-5.result.0 c.interleaved-7.result.0 c.interleaved-9.result.1
    c.interleaved.ensures.first c.interleaved-2.ensures.first c.interleaved-3.ensures.first c.interleaved-4.ensures.first c.interleaved-5.ensures.first c.interleaved-7.ensures.first c.interleaved-9.ensures.second

pub returns-clause-v2 : goal.returns-clause-v2
unfolding interleaved_halves
returns-clause-v2 c =
    three_rounds (interleaved_halves 0) (interleaved_halves 8) (interleaved_halves 0) c.args.lines.0 c.args.lines.1 c.args.lines.2 c.args.lines.3 c.args.lines.4 c.args.lines.5 c.args.lines.6 c.args.lines.7 c.interleaved.result.0 c.interleaved-2.result.0 c.interleaved-3.result.0 c.interleaved-4.result.0 c.interleaved-5.result.1 c.interleaved-7.result.1 c.interleaved-10.result.0
    c.interleaved.ensures.first c.interleaved-2.ensures.first c.interleaved-3.ensures.first c.interleaved-4.ensures.first c.interleaved-5.ensures.second c.interleaved-7.ensures.second c.interleaved-10.ensures.first

pub returns-clause-v3 : goal.returns-clause-v3
unfolding interleaved_halves
returns-clause-v3 c =
    three_rounds (interleaved_halves 0) (interleaved_halves 8) (interleaved_halves 8) c.args.lines.0 c.args.lines.1 c.args.lines.2 c.args.lines.3 c.args.lines.4 c.args.lines.5 c.args.lines.6 c.args.lines.7 c.interleaved.result.0 c.interleaved-2.result.0 c.interleaved-3.result.0 c.interleaved-4.result.0 c.interleaved-5.result.1 c.interleaved-7.result.1 c.interleaved-10.result.1
    c.interleaved.ensures.first c.interleaved-2.ensures.first c.interleaved-3.ensures.first c.interleaved-4.ensures.first c.interleaved-5.ensures.second c.interleaved-7.ensures.second c.interleaved-10.ensures.second

pub returns-clause-v4 : goal.returns-clause-v4
unfolding interleaved_halves
returns-clause-v4 c =
    three_rounds (interleaved_halves 8) (interleaved_halves 0) (interleaved_halves 0) c.args.lines.0 c.args.lines.1 c.args.lines.2 c.args.lines.3 c.args.lines.4 c.args.lines.5 c.args.lines.6 c.args.lines.7 c.interleaved.result.1 c.interleaved-2.result.1 c.interleaved-3.result.1 c.interleaved-4.result.1 c.interleaved-6.result.0 c.interleaved-8.result.0 c.interleaved-11.result.0
    c.interleaved.ensures.second c.interleaved-2.ensures.second c.interleaved-3.ensures.second c.interleaved-4.ensures.second c.interleaved-6.ensures.first c.interleaved-8.ensures.first c.interleaved-11.ensures.first

pub returns-clause-v5 : goal.returns-clause-v5
unfolding interleaved_halves
returns-clause-v5 c =
    three_rounds (interleaved_halves 8) (interleaved_halves 0) (interleaved_halves 8) c.args.lines.0 c.args.lines.1 c.args.lines.2 c.args.lines.3 c.args.lines.4 c.args.lines.5 c.args.lines.6 c.args.lines.7 c.interleaved.result.1 c.interleaved-2.result.1 c.interleaved-3.result.1 c.interleaved-4.result.1 c.interleaved-6.result.0 c.interleaved-8.result.0 c.interleaved-11.result.1
    c.interleaved.ensures.second c.interleaved-2.ensures.second c.interleaved-3.ensures.second c.interleaved-4.ensures.second c.interleaved-6.ensures.first c.interleaved-8.ensures.first c.interleaved-11.ensures.second

pub returns-clause-v6 : goal.returns-clause-v6
unfolding interleaved_halves
returns-clause-v6 c =
    three_rounds (interleaved_halves 8) (interleaved_halves 8) (interleaved_halves 0) c.args.lines.0 c.args.lines.1 c.args.lines.2 c.args.lines.3 c.args.lines.4 c.args.lines.5 c.args.lines.6 c.args.lines.7 c.interleaved.result.1 c.interleaved-2.result.1 c.interleaved-3.result.1 c.interleaved-4.result.1 c.interleaved-6.result.1 c.interleaved-8.result.1 c.interleaved-12.result.0
    c.interleaved.ensures.second c.interleaved-2.ensures.second c.interleaved-3.ensures.second c.interleaved-4.ensures.second c.interleaved-6.ensures.second c.interleaved-8.ensures.second c.interleaved-12.ensures.first

pub returns-clause-v7 : goal.returns-clause-v7
unfolding interleaved_halves
returns-clause-v7 c =
    three_rounds (interleaved_halves 8) (interleaved_halves 8) (interleaved_halves 8) c.args.lines.0 c.args.lines.1 c.args.lines.2 c.args.lines.3 c.args.lines.4 c.args.lines.5 c.args.lines.6 c.args.lines.7 c.interleaved.result.1 c.interleaved-2.result.1 c.interleaved-3.result.1 c.interleaved-4.result.1 c.interleaved-6.result.1 c.interleaved-8.result.1 c.interleaved-12.result.1
    c.interleaved.ensures.second c.interleaved-2.ensures.second c.interleaved-3.ensures.second c.interleaved-4.ensures.second c.interleaved-6.ensures.second c.interleaved-8.ensures.second c.interleaved-12.ensures.second
