use Rattle.std.proofs.Common.{◌+◌, ◌-◌}
use Rattle.inter_predict.specs.Kernels.{IsStrip, tapped_twice}
use Rattle.inter_predict.proofs.windows.in_ones.Given as goal

abbrev pub invariant-loop-column : goal.invariant-loop-column
invariant-loop-column l = IsStrip (λ column row. tapped_twice l.fn.filters.across l.fn.filters.down l.fn.window.samples.now l.fn.window.stride (l.fn.rest.first + column) row) l.fn.rest.first (l.column - l.fn.rest.first) l.fn.rest.height l.fn.rest.stride l.fn.out l.out
