use Rattle.std.proofs.Common.{zero-add, ap, ℕ, ◌≡◌, ◌+◌, ◌-◌, ◌*◌, ◌≤◌, length, arith, rules}
use Rattle.inter_predict.proofs.Predicted.{block_is}
use Rattle.inter_predict.specs.Kernels.{tapped_twice}
use Rattle.inter_predict.proofs.Twice.{same_strip}
use Rattle.inter_predict.proofs.blocks.filtered.Goals as goal

pub strip-requires-clause-room : goal.strip-requires-clause-room
strip-requires-clause-room g c =
    let rows : c.args.height + 5 - 1 ≡ c.args.height + 4 = omega arith in
    let room = rw rows at c.in-Some.ensures.samples.room in
    let enough : (c.args.height + 4) * c.in-Some.window.stride + (0 + g.row.N + 5) ≤ length c.in-Some.window.samples.now = omega (arith, room) in
    enough

pub returns-in-Some : goal.returns-in-Some
returns-in-Some g c =
    let samples = c.in-Some.window.samples.now in
    let sample : ℕ → ℕ → ℕ = λ (column row : ℕ). tapped_twice c.of-across.result c.of-down.result samples c.in-Some.window.stride column row in
    let strip = same_strip _ sample 0 g.row.N c.args.height c.args.stride c.args.out.now c.strip.new.out c.strip.ensures.taps (λ column row inside below. ap (λ k. sample k row) (zero-add column)) in
    block_is c.args.reference.kind c.args.reference.plane.now.shown c.args.place.x c.args.place.y c.args.vector.0 c.args.vector.1 c.first_tap-left.result c.first_tap-top.result c.fraction.result c.fraction-in-Some.result c.of-across.result c.of-down.result c.in-Some.window.samples.now c.in-Some.window.stride g.row.N c.args.height c.args.stride c.args.out.now c.strip.new.out
    c.of-across.ensures.value c.of-down.ensures.value c.fraction.ensures.value c.fraction-in-Some.ensures.value (search rules) (search rules) (search rules) (search rules) c.first_tap-left.ensures.value c.first_tap-top.ensures.value c.first_tap-left.ensures.near c.first_tap-top.ensures.near c.in-Some.ensures.samples strip
