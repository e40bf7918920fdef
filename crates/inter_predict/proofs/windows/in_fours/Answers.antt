use Rattle.std.proofs.Common.{◌≡◌, ◌+◌, ◌*◌, ◌/◌, ℕ, refl, sym, ap, zero-add, arith}
use Rattle.inter_predict.specs.Kernels.{IsStrip, tapped_twice}
use Rattle.inter_predict.proofs.Predicted.{strip_predicts}
use Rattle.inter_predict.proofs.StripRows.{joined}
use Rattle.inter_predict.proofs.Twice.{same_strip}
use Rattle.inter_predict.proofs.windows.in_fours.Goals as goal

pub loop-four-preserved : goal.loop-four-preserved
loop-four-preserved c =
    let now = c.loop-four.four * 4 in
    let sample : ℕ → ℕ → ℕ = λ (column row : ℕ). tapped_twice c.args.filters.across c.args.filters.down c.args.window.samples.now c.args.window.stride column row in
    joined sample (λ column row. sample (now + column) row) 0 now now 4 ((c.loop-four.four + 1) * 4) c.args.height c.args.stride c.args.out.now c.loop-four.out c.strip.new.out
    (omega arith) (omega arith) (omega arith) c.loop-four.invariant c.strip.ensures.taps
    (λ column row. refl)

pub returns-clause-samples : goal.returns-clause-samples
returns-clause-samples c =
    let all : c.loop-four.four * 4 ≡ c.args.width / 4 * 4 = omega arith in
    let none : IsStrip (λ column row. tapped_twice c.args.filters.across c.args.filters.down c.args.window.samples.now c.args.window.stride (0 + column) row) 0 (c.args.width / 4 * 4) c.args.height c.args.stride c.args.out.now c.loop-four.out =
    same_strip _ _ 0 (c.args.width / 4 * 4) c.args.height c.args.stride c.args.out.now c.loop-four.out (rw all at c.loop-four.invariant) (λ column row inside within. ap (λ k. tapped_twice c.args.filters.across c.args.filters.down c.args.window.samples.now c.args.window.stride k row) (sym (zero-add column))) in
    strip_predicts c.args.filters.across c.args.filters.down c.args.window.samples.now c.args.window.stride 0 (c.args.width / 4 * 4) c.args.height c.args.stride c.args.out.now c.loop-four.out none
