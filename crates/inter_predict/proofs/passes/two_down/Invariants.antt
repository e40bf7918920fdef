use Rattle.std.proofs.Common.{◌+◌, ◌-◌, ◌<◌}
use Rattle.inter_predict.specs.Kernels.{IsLine, IsStrip, tapped_from}
use Rattle.inter_predict.proofs.passes.two_down.Given as goal

abbrev pub invariant-loop-row : goal.invariant-loop-row
invariant-loop-row g l =
    IsLine g.row.N (g.L.Lines.sample l.fn.lines (l.row + 2)) l.c
    × IsStrip (tapped_from l.fn.taps (g.L.Lines.sample l.fn.lines)) l.fn.strip.first g.S.Samples.width l.row l.fn.strip.stride l.fn.out l.out
    × (g.S.Samples.width < g.row.N → IsStrip (λ column row. tapped_from l.fn.taps (g.L.Lines.sample l.fn.lines) (g.S.Samples.width + column) row) l.fn.strip.first (g.row.N - g.S.Samples.width) l.row l.fn.strip.stride l.fn.other l.other)
