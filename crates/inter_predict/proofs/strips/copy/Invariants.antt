use Rattle.std.proofs.Common.{◌+◌, ◌*◌}
use Rattle.std.specs.Prelude.{slice_index}
use Rattle.inter_predict.specs.Kernels.{IsStrip}
use Rattle.inter_predict.proofs.strips.copy.Given as goal

abbrev pub invariant-loop-row : goal.invariant-loop-row
invariant-loop-row g l = IsStrip (λ column row. slice_index l.fn.rows.samples.now (l.fn.rows.start + row * l.fn.rows.stride + column)) l.fn.strip.first g.row.N l.row l.fn.strip.stride l.fn.out l.out
