use Rattle.std.proofs.Common.{◌≡◌, ◌+◌, ◌-◌, ℕ, ap, arith}
use Rattle.inter_predict.specs.Kernels.{tapped_twice}
use Rattle.inter_predict.proofs.StripRows.{joined}
use Rattle.inter_predict.proofs.Predicted.{strip_predicts}
use Rattle.inter_predict.proofs.windows.in_ones.Goals as goal

pub loop-column-preserved : goal.loop-column-preserved
loop-column-preserved c =
    let first = c.args.rest.first in
    let now = c.loop-column.column in
    let sample : ℕ → ℕ → ℕ = λ (column row : ℕ). tapped_twice c.args.filters.across c.args.filters.down c.args.window.samples.now c.args.window.stride column row in
    joined (λ column row. sample (first + column) row) (λ column row. sample (now + column) row) first now (now - first) 1 (now + 1 - first) c.args.rest.height c.args.rest.stride c.args.out.now c.loop-column.out c.strip.new.out
    (omega arith) (omega arith) (omega arith) c.loop-column.invariant c.strip.ensures.taps
    (λ column row. let same : now + column ≡ first + (now - first + column) = omega arith in ap (λ k. sample k row) same)

pub returns-clause-samples : goal.returns-clause-samples
returns-clause-samples c =
    let all : c.loop-column.column ≡ c.args.width = omega arith in
    strip_predicts c.args.filters.across c.args.filters.down c.args.window.samples.now c.args.window.stride c.args.rest.first (c.args.width - c.args.rest.first) c.args.rest.height c.args.rest.stride c.args.out.now c.loop-column.out (rw all at c.loop-column.invariant)
