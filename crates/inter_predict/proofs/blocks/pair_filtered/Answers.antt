use Rattle.std.proofs.Common.{zero-add, ap, ℕ, rules}
use Rattle.inter_predict.specs.Kernels.{tapped_twice}
use Rattle.inter_predict.proofs.Predicted.{block_is}
use Rattle.inter_predict.proofs.Twice.{same_strip}
use Rattle.inter_predict.proofs.blocks.pair_filtered.Goals as goal

pub returns-in-Some-Some-clause-out : goal.returns-in-Some-Some-clause-out
returns-in-Some-Some-clause-out c =
    let samples = c.in-Some-Some.one.samples.now in
    let stride = c.in-Some-Some.one.stride in
    let sample : ℕ → ℕ → ℕ = λ (column row : ℕ). tapped_twice c.of-across.result c.of-down.result samples stride column row in
    let strip = same_strip _ sample 0 8 8 c.args.stride c.args.out.now c.pair_strip.new.out c.pair_strip.ensures.out (λ column row inside below. ap (λ k. sample k row) (zero-add column)) in
    let window = rw c.in-Some-Some.is-0 at c.window-first_window.ensures.samples in
    block_is c.args.source.kind c.args.source.plane.now.shown c.args.source.x c.args.source.y c.args.source.vector.0 c.args.source.vector.1 c.first_tap-left.result c.first_tap-top.result c.fraction.result c.fraction-in-Some-Some.result c.of-across.result c.of-down.result samples stride 8 8 c.args.stride c.args.out.now c.pair_strip.new.out
    c.of-across.ensures.value c.of-down.ensures.value c.fraction.ensures.value c.fraction-in-Some-Some.ensures.value (search rules) (search rules) (search rules) (search rules) c.first_tap-left.ensures.value c.first_tap-top.ensures.value c.first_tap-left.ensures.near c.first_tap-top.ensures.near window strip

pub returns-in-Some-Some-clause-other : goal.returns-in-Some-Some-clause-other
returns-in-Some-Some-clause-other c =
    let samples = c.in-Some-Some.two.samples.now in
    let stride = c.in-Some-Some.one.stride in
    let sample : ℕ → ℕ → ℕ = λ (column row : ℕ). tapped_twice c.of-across.result c.of-down.result samples stride column row in
    let strip = same_strip _ sample 0 8 8 c.args.stride c.args.other.now c.pair_strip.new.other c.pair_strip.ensures.other (λ column row inside below. ap (λ k. sample k row) (zero-add column)) in
    let window = rw (← c.if-one-two.true) at (rw c.in-Some-Some.is-1 at c.window-second_window.ensures.samples) in
    block_is c.args.source.kind c.args.second.now.shown c.args.source.x c.args.source.y c.args.source.vector.0 c.args.source.vector.1 c.first_tap-left.result c.first_tap-top.result c.fraction.result c.fraction-in-Some-Some.result c.of-across.result c.of-down.result samples stride 8 8 c.args.stride c.args.other.now c.pair_strip.new.other
    c.of-across.ensures.value c.of-down.ensures.value c.fraction.ensures.value c.fraction-in-Some-Some.ensures.value (search rules) (search rules) (search rules) (search rules) c.first_tap-left.ensures.value c.first_tap-top.ensures.value c.first_tap-left.ensures.near c.first_tap-top.ensures.near window strip
