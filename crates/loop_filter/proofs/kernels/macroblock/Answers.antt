use Rattle.loop_filter.specs.Lanes.{wide_line_at}
use Rattle.loop_filter.proofs.OneLine.{macroblock_lane}
use Rattle.loop_filter.proofs.kernels.macroblock.Goals as goal

pub returns : goal.returns
returns c = λ i less.
    rw (
      c.raised.ensures.value i less,
      c.raised-2.ensures.value i less,
      c.raised-3.ensures.value i less,
      c.lowered.ensures.value i less,
      c.lowered-2.ensures.value i less,
      c.lowered-3.ensures.value i less,
      c.more-p0_move.ensures i less,
      c.more-q0_move.ensures i less,
      c.outer_adjustments.ensures.near i less,
      c.outer_adjustments.ensures.middle i less,
      c.outer_adjustments.ensures.far i less,
      c.eighths_after-up.ensures i less,
      c.eighths_after-down.ensures i less,
      c.either-narrow.ensures i less,
      c.either-wide.ensures i less,
      c.either-number.ensures i less,
      c.shortfall-full.ensures i less,
      c.difference-outer.ensures.value i less,
      c.all-none.ensures i less,
      c.variance_over-high_edge_variance.ensures i less,
      c.excess-rough.ensures i less,
    )
    (macroblock_lane c.args.limits (wide_line_at c.args.taps i) c.requires.limit
    (record {
      near = record { p1 = c.raised-2.ensures.samples i less; p0 = c.raised-3.ensures.samples i less; q0 = c.lowered.ensures.samples i less; q1 = c.lowered-2.ensures.samples i less };
      p2 = c.raised.ensures.samples i less;
      q2 = c.lowered-3.ensures.samples i less;
    }))
