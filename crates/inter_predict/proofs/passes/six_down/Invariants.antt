use Rattle.std.proofs.Common.{◌+◌, ◌-◌, ◌<◌}
use Rattle.inter_predict.specs.Kernels.{IsStrip, tapped_from}
use Rattle.inter_predict.proofs.TappedLanes.{AreLines}
use Rattle.inter_predict.proofs.passes.six_down.Given as goal

abbrev pub invariant-loop-row : goal.invariant-loop-row
invariant-loop-row g l =
    AreLines g.row.N (g.L.Lines.sample l.fn.lines) l.row l.a l.b l.c l.d l.e
    × IsStrip (tapped_from (g.W.Weights.taps l.fn.weights) (g.L.Lines.sample l.fn.lines)) l.fn.strip.first g.S.Samples.width l.row l.fn.strip.stride l.fn.out l.out
    × (g.S.Samples.width < g.row.N → IsStrip (λ column row. tapped_from (g.W.Weights.taps l.fn.weights) (g.L.Lines.sample l.fn.lines) (g.S.Samples.width + column) row) l.fn.strip.first (g.row.N - g.S.Samples.width) l.row l.fn.strip.stride l.fn.other l.other)
