use Rattle.std.proofs.Common.{arith}
use Rattle.loop_filter.proofs.Places.{place_small}
use Rattle.loop_filter.proofs.frames.block_at.Goals as goal

pub overflow_mul-result : goal.overflow_mul-result
overflow_mul-result c =
    let small = place_small c.args.side c.args.stride c.args.mx c.args.my c.requires.small.0 c.requires.small.1 c.requires.small.2 c.requires.small.3 in
    omega (arith, small)

pub overflow_add-result : goal.overflow_add-result
overflow_add-result c =
    let small = place_small c.args.side c.args.stride c.args.mx c.args.my c.requires.small.0 c.requires.small.1 c.requires.small.2 c.requires.small.3 in
    omega (arith, small)
