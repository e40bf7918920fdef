use Rattle.loop_filter.specs.Lanes.{wide_line_at}
use Rattle.loop_filter.proofs.OneLine.{simple_lane}
use Rattle.loop_filter.proofs.kernels.simple.Goals as goal

pub returns : goal.returns
returns c = λ i less.
    rw (c.raised.ensures.value i less, c.lowered.ensures.value i less, c.eighths_after-up.ensures i less, c.eighths_after-down.ensures i less, c.either-number.ensures i less, c.step_over-over.ensures i less, c.shortfall-full.ensures i less, c.difference-outer.ensures.value i less, c.all-none.ensures i less)
    (simple_lane c.args.limit (wide_line_at c.args.taps i) c.requires.limit
    (record { p1 = c.difference-outer.ensures.first i less; p0 = c.raised.ensures.samples i less; q0 = c.lowered.ensures.samples i less; q1 = c.difference-outer.ensures.second i less }))
