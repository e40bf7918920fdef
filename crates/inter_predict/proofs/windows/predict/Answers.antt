use Rattle.std.proofs.Common.{◌+◌, ◌-◌, ◌*◌, ◌/◌, ℕ, refl, sym, ap, zero-add, arith}
use Rattle.inter_predict.specs.Kernels.{IsStrip, tapped_twice}
use Rattle.inter_predict.proofs.Predicted.{strip_predicts}
use Rattle.inter_predict.proofs.StripRows.{joined}
use Rattle.inter_predict.proofs.Twice.{same_strip}
use Rattle.inter_predict.proofs.windows.predict.Goals as goal

pub returns : goal.returns
returns c =
    let width = c.args.width in
    let first = width / 4 * 4 in
    let sample : ℕ → ℕ → ℕ = λ (column row : ℕ). tapped_twice c.args.filters.across c.args.filters.down c.args.window.samples.now c.args.window.stride column row in
    let strip : IsStrip sample 0 width c.args.height c.args.stride c.args.out.now c.in_ones.new.out =
    joined sample (λ column row. sample (first + column) row) 0 first first (width - first) width c.args.height c.args.stride c.args.out.now c.in_fours.new.out c.in_ones.new.out
    (omega arith) (omega arith) (omega arith) c.in_fours.ensures.taps c.in_ones.ensures.taps
    (λ column row. refl) in
    let none : IsStrip (λ column row. sample (0 + column) row) 0 width c.args.height c.args.stride c.args.out.now c.in_ones.new.out =
    same_strip _ _ 0 width c.args.height c.args.stride c.args.out.now c.in_ones.new.out strip (λ column row inside within. ap (λ k. sample k row) (sym (zero-add column))) in
    record { taps = strip; samples = strip_predicts c.args.filters.across c.args.filters.down c.args.window.samples.now c.args.window.stride 0 width c.args.height c.args.stride c.args.out.now c.in_ones.new.out none }
