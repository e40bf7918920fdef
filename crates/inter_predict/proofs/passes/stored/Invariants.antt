use Rattle.std.proofs.Common.{◌+◌, ◌-◌, ◌<◌}
use Rattle.inter_predict.specs.Kernels.{IsStrip}
use Rattle.inter_predict.proofs.passes.stored.Given as goal

abbrev pub invariant-loop-row : goal.invariant-loop-row
invariant-loop-row g l =
    IsStrip (λ column row. g.L.Lines.sample l.fn.lines row column) l.fn.strip.first g.S.Samples.width l.row l.fn.strip.stride l.fn.out l.out
    × (g.S.Samples.width < g.row.N → IsStrip (λ column row. g.L.Lines.sample l.fn.lines row (g.S.Samples.width + column)) l.fn.strip.first (g.row.N - g.S.Samples.width) l.row l.fn.strip.stride l.fn.other l.other)
