use Rattle.std.proofs.Common.{◌≡◌, arith}
use Rattle.inter_predict.proofs.sums.sums_down.Goals as goal

pub returns-in_default-clause-other : goal.returns-in_default-clause-other
returns-in_default-clause-other g c =
    let known = c.requires.small.known c.requires.known in
    let seven : c.args.taps.eighths ≡ 7 = omega (arith, known.0, c.in_default) in
    rw (known.1, seven) c.six_down-in_default.ensures.other
