use Rattle.std.proofs.Common.{◌^◌, ◌<◌, ◌≤◌, arith}
use Rattle.std.proofs.Math.Nat.{pow-le-pow_right}
use Rattle.frame_header.proofs.fields.read_partition_count.Goals as goal

pub returns-clause-few : goal.returns-clause-few
returns-clause-few c =
    let some : 0 < 2 = omega arith in
    let most : c.literal-log2.result ≤ 3 = omega (arith, c.literal-log2.ensures.small) in
    let power : 2 ^ c.literal-log2.result ≤ 2 ^ 3 = pow-le-pow_right some most in omega (arith, power)
