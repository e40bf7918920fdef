use Rattle.std.specs.Prelude.{slice_index}
use Rattle.std.proofs.Common.{arith}
use Rattle.loop_filter.specs.Lanes.{wide_line_at}
use Rattle.loop_filter.proofs.OneLine.{inner_lane}
use Rattle.loop_filter.proofs.Scalars.{eighth_small}
use Rattle.loop_filter.proofs.kernels.inner.Goals as goal

pub halves-half-requires : goal.halves-half-requires
halves-half-requires c = record { small = λ i less. let e = eighth_small 4 (slice_index c.either-number.result i) in rw (c.eighths_after-down.ensures i less) (omega (arith, e)) }

pub returns : goal.returns
returns c = λ i less.
    rw (
      c.raised.ensures.value i less,
      c.raised-2.ensures.value i less,
      c.lowered.ensures.value i less,
      c.lowered-2.ensures.value i less,
      c.either-outer_move.ensures i less,
      c.halves-half.ensures i less,
      c.all-stay.ensures i less,
      c.eighths_after-up.ensures i less,
      c.eighths_after-down.ensures i less,
      c.either-number.ensures i less,
      c.shortfall-full.ensures i less,
      c.either-outer.ensures i less,
      c.difference-difference.ensures.value i less,
      c.all-none.ensures i less,
      c.variance_over-high_edge_variance.ensures i less,
      c.excess-rough.ensures i less,
    )
    (inner_lane c.args.limits (wide_line_at c.args.taps i) c.requires.limit
    (record { p1 = c.raised.ensures.samples i less; p0 = c.raised-2.ensures.samples i less; q0 = c.lowered.ensures.samples i less; q1 = c.lowered-2.ensures.samples i less }))
