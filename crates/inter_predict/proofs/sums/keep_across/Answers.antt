use Rattle.std.proofs.Common.{◌≡◌, arith}
use Rattle.inter_predict.proofs.sums.keep_across.Goals as goal

pub returns-in_default : goal.returns-in_default
returns-in_default g c =
    let known = c.requires.small.known c.requires.known in
    let seven : c.args.taps.eighths ≡ 7 = omega (arith, known.0, c.in_default) in
    rw (known.1, seven) c.keep-in_default.ensures
