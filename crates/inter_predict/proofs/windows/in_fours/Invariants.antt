use Rattle.std.proofs.Common.{◌*◌}
use Rattle.inter_predict.specs.Kernels.{IsStrip, tapped_twice}
use Rattle.inter_predict.proofs.windows.in_fours.Given as goal

abbrev pub invariant-loop-four : goal.invariant-loop-four
invariant-loop-four l = IsStrip (tapped_twice l.fn.filters.across l.fn.filters.down l.fn.window.samples.now l.fn.window.stride) 0 (l.four * 4) l.fn.height l.fn.stride l.fn.out l.out
